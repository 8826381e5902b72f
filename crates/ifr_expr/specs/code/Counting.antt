-- How the values of an expression are counted, opcode by opcode.
use Rattle.std.specs.Prelude.{ℕ, ◌+◌, ◌-◌, nat_lt, if◌then◌else◌, Result, Ok, Err, List, [], ◌∷◌}
use Rattle.hii_bytes.specs.declared.cause.Cause.TheVariants.{ExprShape, ExprDepth, OpOutside, OpSize, Misplaced, ScopeBit}
use Rattle.hii_bytes.specs.declared.cause.Fault.{Fault}
use Rattle.ifr_opcodes.specs.Forest.{Mark}
use Rattle.ifr_expr.specs.Counting.{wanted}
use Rattle.hii_bytes.specs.declared.cause.Cause.{Cause}

-- how many values there are after an opcode, where so many are before it
abbrev pub after : ℕ → Mark → Result ℕ Fault
after count op =
    if nat_lt count (wanted op) then Err record { cause = ExprShape; place = op.place }
    else (if nat_lt 64 (count - wanted op + 1)
    then Err record { cause = ExprDepth; place = op.place }
    else Ok (count - wanted op + 1))

-- The first fault stays.
abbrev pub counted : Result ℕ Fault → Mark → Result ℕ Fault
counted (Ok count) op = after count op
counted (Err fault) op = Err fault

unfoldable pub counted_all : Result ℕ Fault → List Mark → Result ℕ Fault
counted_all count [] = count
counted_all count (op ∷ ops) = counted_all (counted count op) ops

-- the causes by their numbers
abbrev pub opcode_causes : List Cause
opcode_causes = OpOutside ∷ OpSize ∷ Misplaced ∷ ScopeBit ∷ []
