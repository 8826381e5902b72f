use Rattle.std.proofs.Common.{◌≡◌, List, ℕ, Some, refl, ap, sym, ◌∙◌}
use Rattle.std.specs.Prelude.{option_map}
use Rattle.ifr_opcodes.specs.Forest.{Node}
use Rattle.ifr_opcodes.specs.Opcode.{number}
use Rattle.ifr_nodes.specs.Guards.{is_guard}
use Rattle.ifr_nodes.specs.Nodes.{nodes_of}
use Rattle.ifr_scopes.specs.code.AnyConditions.{any_condition_node}
use Rattle.ifr_index.specs.code.Index.{kind_at, conditional_at}
use Rattle.ifr_index.specs.code.Tables.{inner_guard, guard_entry, is_question_condition, kept_condition}
use Rattle.ifr_index.specs.declared.index.GuardEntry.{GuardEntry}
use Rattle.ifr_index.specs.declared.index.ConditionEntry.{ConditionEntry}
use Rattle.ifr_scopes.proofs.ConditionAtLemmas.{guard_some, condition_some, none_there}
use Rattle.ifr_index.proofs.IndexLemmas.{looked_up, nodes_rise}
use Rattle.ifr_scopes.proofs.forms.Forms.condition_at.Goals as goal
use Rattle.ifr_scopes.proofs.forms.Forms.condition_at.Goals.{After-guard_at, After-condition_at}

-- the guard that was looked up
guard_is : (c : After-guard_at) → c.guard_at.result ≡ option_map (λ n. guard_entry (inner_guard (nodes_of c.self.inside.ifr.now) n.path) n) (kind_at (λ n. is_guard (number n.op)) (nodes_of c.self.inside.ifr.now) c.args.place)
guard_is c =
    let bytes = c.self.inside.ifr.now in
    let ns = nodes_of bytes in
    looked_up (λ n. is_guard (number n.op)) (λ n. guard_entry (inner_guard ns n.path) n) (λ (g : GuardEntry). g.place) (λ n. refl) c.args.place ns c.deref.result.now c.guard_at.result (nodes_rise bytes c.self.invariant.accepted.checked.spelled)
    (c.deref.ensures.value ∙ c.self.invariant.index.guards) c.guard_at.ensures

pub kept-requires-clause-kept : goal.kept-requires-clause-kept
kept-requires-clause-kept c =
    let is = sym c.in-Some.is ∙ guard_is (goal.at.kept-requires-clause-kept c).After-guard_at in
    (guard_some c.self.inside.ifr.now c.args.place c.in-Some.guard c.self.invariant.accepted.checked.spelled is).kept

pub returns-in-Some : goal.returns-in-Some
returns-in-Some c =
    let is = sym c.in-Some.is ∙ guard_is (goal.at.returns-in-Some c).After-guard_at in
    let its = guard_some c.self.inside.ifr.now c.args.place c.in-Some.guard c.self.invariant.accepted.checked.spelled is in
    ap (λ (n : Node). Some n) c.kept.ensures.node ∙ sym its.is ∙ ap (λ (b : List ℕ). conditional_at (nodes_of b) c.args.place) c.self.view_is

-- or the condition
condition_is : (c : After-condition_at) → c.condition_at.result ≡ option_map (kept_condition (nodes_of c.self.inside.ifr.now)) (kind_at is_question_condition (nodes_of c.self.inside.ifr.now) c.args.place)
condition_is c =
    let bytes = c.self.inside.ifr.now in
    let ns = nodes_of bytes in
    looked_up is_question_condition (kept_condition ns) (λ (x : ConditionEntry). x.place) (λ n. refl) c.args.place ns c.deref-2.result.now c.condition_at.result (nodes_rise bytes c.self.invariant.accepted.checked.spelled)
    (c.deref-2.ensures.value ∙ c.self.invariant.index.conditions) c.condition_at.ensures

pub returns-in_err-condition : goal.returns-in_err-condition
returns-in_err-condition c =
    ap (option_map any_condition_node) c.from_residual.ensures
    ∙ none_there c.self.inside.ifr.now c.args.place c.self.invariant.accepted.checked.spelled (sym c.in_default.is ∙ guard_is (goal.at.returns-in_err-condition c).After-guard_at)
    (sym c.in_err-condition.was ∙ condition_is (goal.at.returns-in_err-condition c).After-condition_at)
    ∙ ap (λ (b : List ℕ). conditional_at (nodes_of b) c.args.place) c.self.view_is

pub kept-requires-2-clause-kept : goal.kept-requires-2-clause-kept
kept-requires-2-clause-kept c =
    let at = goal.at.kept-requires-2-clause-kept c in
    (condition_some c.self.inside.ifr.now c.args.place c.in_ok-condition.condition c.self.invariant.accepted.checked.spelled (sym c.in_default.is ∙ guard_is at.After-guard_at)
    (sym c.in_ok-condition.was ∙ condition_is at.After-condition_at)).kept

pub returns : goal.returns
returns c =
    let at = goal.at.returns c in
    let its = condition_some c.self.inside.ifr.now c.args.place c.in_ok-condition.condition c.self.invariant.accepted.checked.spelled (sym c.in_default.is ∙ guard_is at.After-guard_at)
    (sym c.in_ok-condition.was ∙ condition_is at.After-condition_at) in
    ap (λ (n : Node). Some n) c.kept-2.ensures.node ∙ sym its.is ∙ ap (λ (b : List ℕ). conditional_at (nodes_of b) c.args.place) c.self.view_is
