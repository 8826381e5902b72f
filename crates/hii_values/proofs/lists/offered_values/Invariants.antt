use Rattle.std.proofs.Common.{◌≡◌, ◌==◌, ◌&&◌, ◌||◌, ℕ, take}
use Rattle.std.specs.List.{list_any}
use Rattle.ifr_scopes.specs.code.Parts.{options_left}
use Rattle.hii_values.specs.Inputs.{is_offered}
use Rattle.hii_values.specs.Types.{option_values}
use Rattle.hii_values.specs.code.ChoiceViews.{choice_values}
use Rattle.hii_values.specs.code.ItemsLeft.{items_left}
use Rattle.hii_values.specs.code.MetValues.{is_met, is_sought}
use Rattle.hii_values.proofs.lists.offered_values.Given as goal

-- a value is met, or an option that is left has it, where an option has it
abbrev pub invariant-loop-option : goal.invariant-loop-option
invariant-loop-option l = record {
  can : goal.iterator-loop-option.can_next l.option-iterator;
  ends : goal.iterator-loop-option.is_finite l.option-iterator;
  sought : (v : ℕ) → is_sought l.offered v ≡ list_any (λ item. item == v) (take 255 (items_left l.items));
  met : (v : ℕ) → (is_met l.offered v || (is_sought l.offered v && is_offered (option_values (options_left l.option-iterator)) v))
      ≡ (is_sought l.offered v && is_offered (choice_values l.choices) v);
}
