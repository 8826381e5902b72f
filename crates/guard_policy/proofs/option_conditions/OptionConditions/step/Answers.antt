use Rattle.std.proofs.Common.{sym, ◌∙◌}
use Rattle.ifr_nodes.specs.code.Checked.{IsNodeOf}
use Rattle.ifr_scopes.specs.code.Parts.{option_node}
use Rattle.guard_policy.proofs.AskedLemmas.{next_piece}
use Rattle.guard_policy.proofs.IndexedLemmas.{of_option}
use Rattle.guard_policy.specs.laws.Support.{around}
use Rattle.guard_policy.proofs.option_conditions.OptionConditions.step.Goals as goal

pub loop-guard-preserved : goal.loop-guard-preserved
loop-guard-preserved c =
    let o = option_node c.in_ok-option.option in
    let node : IsNodeOf c.next_option.new.self.forms.now o = rw c.in_ok-option.ensures.stays.0 c.in_ok-option.ensures.of_package in
    let its = c.changing.ensures o node (of_option o c.in_ok-option.option.option) (sym c.place.ensures) in
    next_piece around _ o _ _ _ c.in_default.ensures.0 c.in_ok-option.ensures.steps its ∙ c.loop-guard.invariant
