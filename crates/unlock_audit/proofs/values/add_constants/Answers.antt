use Rattle.std.proofs.Common.{BTreeSet, ℤ, ◌+◌, ap, sym, drop, map, ◌∙◌}
use Rattle.ifr_opcodes.specs.Fields.{question_id}
use Rattle.ifr_nodes.specs.Nodes.{nodes_of}
use Rattle.ifr_scopes.specs.code.Lists.{guard_node}
use Rattle.hii_questions.specs.code.Views.{question_node, question_view}
use Rattle.unlock_audit.specs.Moves.{constants_about}
use Rattle.unlock_audit.specs.code.Offered.{offered_near}
use Rattle.unlock_audit.proofs.IdLemmas.{drop_item}
use Rattle.unlock_audit.proofs.OfferedLemmas.{asked_next, asked_passed}
use Rattle.unlock_audit.proofs.values.add_constants.Goals as goal
use Rattle.unlock_audit.proofs.values.add_constants.Goals.{then-asks+in_ok-add_condition, else-asks}

pub loop-guard-preserved : goal.loop-guard-preserved
loop-guard-preserved c =
    let ns = nodes_of c.args.forms.now in
    let q = question_view c.args.numeric.question in
    let id = question_id (question_node c.args.numeric.question).op in
    let cs = c.args.conditions.now in
    let i = c.loop-guard.guard-index in
    let g = c.guard-item.result in
    let left = map guard_node (drop i cs) in
    let rest = map guard_node (drop (i + 1) cs) in
    let steps = drop_item guard_node cs i g c.loop-guard-test.true c.guard-item.is in
    let all = constants_about ns (map guard_node cs) id in
    let asked = rw c.id-id.ensures at c.asks.ensures in
    elim c.if-asks.branch [
      | then-asks+in_ok-add_condition w ↦
          asked_next ns q id c.loop-guard.values.keys c.if-asks.values.keys c.args.values.now.keys left rest all (guard_node g) steps (sym asked ∙ w.if-asks.true) (ap (λ s. s.keys) w.values-is ∙ w.in_ok-add_condition.ensures) c.loop-guard.invariant
      | else-asks w ↦
          ap (λ (s : BTreeSet ℤ). offered_near q s.keys (constants_about ns rest id)) w.values-is
          ∙ asked_passed ns q id c.loop-guard.values.keys c.args.values.now.keys left rest all (guard_node g) steps (sym asked ∙ w.if-asks.false) c.loop-guard.invariant
    ]
