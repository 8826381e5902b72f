use Rattle.std.proofs.Common.{drop, map}
use Rattle.hii_bytes.specs.Watching.{pen_of}
use Rattle.hii_bytes.specs.code.Writing.{Stands}
use Rattle.audit_text.specs.Texts.{shown_byte}
use Rattle.audit_json.specs.Json.{escaped}
use Rattle.audit_json.specs.Telling.{told_as}
use Rattle.unlock_audit.specs.Told.{without_bracket}
use Rattle.unlock_audit.proofs.words.put_store.Given as goal

-- the bytes before those that are left are written
abbrev pub invariant-loop-byte : goal.invariant-loop-byte
invariant-loop-byte g l =
    let all = map without_bracket (map shown_byte l.name) in
    let rest = map without_bracket (map shown_byte (drop l.byte-index l.name)) in
    Stands (pen_of g.W.Write.contents l.fn.out) (pen_of g.W.Write.contents l.out) (told_as l.telling all (escaped all)) (told_as l.telling rest (escaped rest))
