use Rattle.std.proofs.Common.{◌≡◌}
use Rattle.ifr_scopes.specs.code.Parts.{options_left}
use Rattle.hii_values.specs.code.ChoiceViews.{choice_values}
use Rattle.hii_values.specs.Inputs.{offered}
use Rattle.hii_values.specs.Types.{option_values}
use Rattle.hii_values.proofs.choices.Choices.value.Given as goal

-- the value is that of an option that is left
abbrev pub invariant-loop-option : goal.invariant-loop-option
invariant-loop-option l = record {
  can : goal.iterator-loop-option.can_next l.option-iterator;
  ends : goal.iterator-loop-option.is_finite l.option-iterator;
  same : offered (option_values (options_left l.option-iterator)) l.number ≡ offered (choice_values l.self) l.number;
}
