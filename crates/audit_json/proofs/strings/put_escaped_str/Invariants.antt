use Rattle.hii_bytes.specs.Watching.{Writes, pen_of}
use Rattle.audit_json.specs.Json.{escaped}
use Rattle.audit_json.proofs.strings.put_escaped_str.Given as goal

-- the characters so far are written
abbrev pub invariant-loop-c : goal.invariant-loop-c
invariant-loop-c g l = Writes (pen_of g.W.Write.contents l.fn.out) (pen_of g.W.Write.contents l.out) (escaped l.yielded)
