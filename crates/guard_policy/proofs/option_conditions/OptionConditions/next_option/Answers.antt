use Rattle.std.proofs.Common.{sym}
use Rattle.ifr_scopes.specs.code.OptionsLeft.{options_of_left}
use Rattle.guard_policy.proofs.AskedLemmas.{later_nodes}
use Rattle.guard_policy.proofs.OptionLemmas.{first_of}
use Rattle.guard_policy.proofs.option_conditions.OptionConditions.next_option.Goals as goal

pub invariant_of-self : goal.invariant_of-self
invariant_of-self c =
    let it = c.loop-option.self in
    record { nodes = later_nodes it.forms.now (options_of_left it.options) (options_of_left c.next.new.self) c.next.result c.next.ensures.steps it.nodes }

pub returns-then-value-self-clause-of_package : goal.returns-then-value-self-clause-of_package
returns-then-value-self-clause-of_package c = rw (sym c.loop-option.invariant.stays.0) (first_of _ _ _ _ c.in-Some.ensures.steps c.loop-option.self.nodes)
