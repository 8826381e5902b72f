use Rattle.std.proofs.Common.{length, reverse}
use Rattle.std.specs.Prelude.{false}
use Rattle.hii_bytes.specs.Watching.{pen_of}
use Rattle.hii_bytes.specs.code.Writing.{Stands}
use Rattle.audit_text.specs.Texts.{digits_of}
use Rattle.unlock_audit.specs.Told.{bytes_text}
use Rattle.unlock_audit.proofs.words.put_bytes.Given as goal

-- the highest bytes are written
abbrev pub invariant-loop-rest : goal.invariant-loop-rest
invariant-loop-rest g l = Stands (pen_of g.W.Write.contents l.fn.out) (pen_of g.W.Write.contents l.out) (bytes_text l.bytes) (digits_of false (reverse l.rest))

abbrev pub decreases-loop-rest : goal.decreases-loop-rest
decreases-loop-rest g l = length l.rest
