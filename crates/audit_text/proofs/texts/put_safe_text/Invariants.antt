use Rattle.hii_bytes.specs.Watching.{Writes, pen_of}
use Rattle.audit_text.specs.Texts.{safe_text}
use Rattle.audit_text.proofs.texts.put_safe_text.Given as goal

-- the characters so far are written
abbrev pub invariant-loop-c : goal.invariant-loop-c
invariant-loop-c g l = Writes (pen_of g.W.Write.contents l.fn.out) (pen_of g.W.Write.contents l.out) (safe_text l.yielded)
