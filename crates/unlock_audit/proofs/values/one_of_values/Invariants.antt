use Rattle.std.proofs.Common.{◌≡◌, length, map}
use Rattle.std.specs.Prelude.{pos}
use Rattle.std.specs.Ordering.{int_eq}
use Rattle.ifr_scopes.specs.code.Lists.{statement_node}
use Rattle.ifr_scopes.specs.code.OptionsLeft.{options_of_left}
use Rattle.hii_values.specs.Types.{option_values}
use Rattle.unlock_audit.specs.Moves.{one_of_values}
use Rattle.unlock_audit.specs.Rising.{appended_each}
use Rattle.unlock_audit.proofs.values.one_of_values.Given as goal

-- the values of the options that are left are left to be added
abbrev pub invariant-loop-option : goal.invariant-loop-option
invariant-loop-option l = appended_each int_eq l.values.items (map (λ k. pos k) (option_values (options_of_left l.options))) ≡ one_of_values (statement_node l.statement)

abbrev pub decreases-loop-option : goal.decreases-loop-option
decreases-loop-option l = length (options_of_left l.options)
