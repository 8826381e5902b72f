use Rattle.std.proofs.Common.{◌≡◌, ◌<◌, ◌^◌, take}
use Rattle.std.specs.Str.Parse.{AllDigits, digits_value}
use Rattle.hii_bytes.proofs.digits.number_of_digits.Given as goal

-- the number of the digits so far
abbrev pub invariant-loop-byte : goal.invariant-loop-byte
invariant-loop-byte l =
    (AllDigits l.radix (take l.byte-index l.text) × (l.number ≡ digits_value l.radix (take l.byte-index l.text)))
    × (l.number < 2 ^ 64)
