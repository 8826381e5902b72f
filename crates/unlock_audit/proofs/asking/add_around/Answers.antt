use Rattle.std.proofs.Common.{◌++◌, List, map, sym, ap}
use Rattle.ifr_opcodes.specs.Forest.{Node}
use Rattle.ifr_scopes.specs.code.Lists.{guard_node}
use Rattle.hii_questions.specs.code.Views.{question_node}
use Rattle.guard_policy.proofs.IndexedLemmas.{of_statement}
use Rattle.question_audit.proofs.AroundLemmas.{guards_found}
use Rattle.unlock_audit.proofs.AskingLemmas.{all_added, one_added}
use Rattle.unlock_audit.proofs.asking.add_around.Goals as goal

pub loop-guard-init : goal.loop-guard-init
loop-guard-init c =
    let n = question_node c.args.question in
    ap (λ (gs : List Node). map guard_node c.args.conditions.now.items ++ gs)
    (guards_found c.args.policy n _ c.place.result _ c.requires (of_statement n c.args.question.statement.statement) (sym c.place.ensures) c.forms.ensures c.guards_at-guards.ensures.guards)

pub loop-guard-preserved : goal.loop-guard-preserved
loop-guard-preserved c = one_added guard_node _ _ _ _ _ c.in-Some.guard c.in_ok-push.ensures.items c.in-Some.ensures.steps c.loop-guard.invariant

pub returns : goal.returns
returns c = all_added _ _ _ c.in_default.ensures.steps.0 c.loop-guard.invariant
