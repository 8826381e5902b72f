use Rattle.std.proofs.Common.{◌≡◌, length}
use Rattle.ifr_scopes.specs.code.OptionsLeft.{options_of_left}
use Rattle.guard_policy.specs.code.AskedLeft.{options_of_value}
use Rattle.guard_policy.proofs.option_conditions.OptionConditions.next_option.Given as goal

-- the options that were passed have other values
abbrev pub invariant-loop-option : goal.invariant-loop-option
invariant-loop-option l = record {
  coming : options_of_value l.self ≡ options_of_value l.fn.self;
  stays : (l.self.forms ≡ l.fn.self.forms) × (l.self.value ≡ l.fn.self.value) × (l.self.around ≡ l.fn.self.around);
}

abbrev pub decreases-loop-option : goal.decreases-loop-option
decreases-loop-option l = length (options_of_left l.self.options)
