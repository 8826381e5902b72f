use Rattle.std.proofs.Common.{drop, map}
use Rattle.hii_bytes.specs.Watching.{pen_of}
use Rattle.hii_bytes.specs.code.Writing.{Stands}
use Rattle.audit_text.specs.Texts.{shown_byte}
use Rattle.audit_json.specs.Json.{escaped}
use Rattle.audit_json.proofs.strings.put_escaped_bytes.Given as goal

-- the bytes before those that are left are written
abbrev pub invariant-loop-byte : goal.invariant-loop-byte
invariant-loop-byte g l = Stands (pen_of g.W.Write.contents l.fn.out) (pen_of g.W.Write.contents l.out) (escaped (map shown_byte l.name)) (escaped (map shown_byte (drop l.byte-index l.name)))
