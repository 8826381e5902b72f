-- What gives the default of a question.
use Rattle.std.specs.Prelude.{◌≡◌, ℕ, Option, Some, None}
use Rattle.ifr_opcodes.specs.Forest.{Node}
use Rattle.ifr_scopes.specs.code.Parts.{default_node}
use Rattle.hii_values.specs.Inputs.{Offer, raw}
use Rattle.ifr_defaults.specs.Defaults.{Sources, default_with, flagged, given}
use Rattle.ifr_defaults.specs.declared.defaults.DefaultSource.{DefaultSource}
use Rattle.ifr_defaults.specs.declared.defaults.DefaultSource.TheVariants.{Opcode, Flags}

-- The first DEFAULT of the class by place gives it, or, where there is none, flags do; or nothing gives one.
abbrev pub IsSource : Node → ℕ → Option DefaultSource → Type 0
IsSource q class (Some (Opcode default)) = default_with q class ≡ Some (default_node default)
IsSource q class (Some (Flags bits)) = (default_with q class ≡ None) × (flagged q class ≡ Some bits)
IsSource q class None = (default_with q class ≡ None) × (flagged q class ≡ None)

-- the default that it gives
abbrev pub gives : Sources → Node → DefaultSource → Option Offer
gives s q (Opcode default) = given s q (default_node default)
gives s q (Flags bits) = Some (raw bits)
