-- Where the blocks of a string package end.
use Rattle.sibt_strings.specs.code.Blocks.{Front, End, Whole, CutText, BadBlock}

-- no whole block
abbrev pub Stops : Front → Type 0
Stops End = Unit {0}
Stops (Whole block behind) = ⊥
Stops CutText = Unit {0}
Stops BadBlock = Unit {0}
