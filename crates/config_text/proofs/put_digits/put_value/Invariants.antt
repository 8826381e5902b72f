use Rattle.std.proofs.Common.{length}
use Rattle.hii_bytes.specs.Watching.{pen_of}
use Rattle.hii_bytes.specs.code.Writing.{Stands}
use Rattle.config_text.specs.code.Written.{value_digits}
use Rattle.config_text.proofs.put_digits.put_value.Given as goal

-- the bytes behind those that are left were written
abbrev pub invariant-loop-rest : goal.invariant-loop-rest
invariant-loop-rest g l = Stands (pen_of g.W.Write.contents l.fn.out) (pen_of g.W.Write.contents l.out) (value_digits l.fn.bytes) (value_digits l.rest)

abbrev pub decreases-loop-rest : goal.decreases-loop-rest
decreases-loop-rest g l = length l.rest
