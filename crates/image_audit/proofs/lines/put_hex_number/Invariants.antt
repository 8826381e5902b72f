use Rattle.std.proofs.Common.{false, length, reverse}
use Rattle.hii_bytes.specs.Watching.{pen_of}
use Rattle.hii_bytes.specs.code.Writing.{Stands}
use Rattle.audit_text.specs.Texts.{digits_of}
use Rattle.image_audit.specs.Lines.{number_text}
use Rattle.image_audit.proofs.lines.put_hex_number.Given as goal

-- the digits of the bytes behind the rest are written
abbrev pub invariant-loop-rest : goal.invariant-loop-rest
invariant-loop-rest g l = Stands (pen_of g.W.Write.contents l.fn.out) (pen_of g.W.Write.contents l.out) (number_text l.bytes) (digits_of false (reverse l.rest))

abbrev pub decreases-loop-rest : goal.decreases-loop-rest
decreases-loop-rest g l = length l.rest
