use Rattle.std.proofs.Common.{drop, codes, ◌++◌}
use Rattle.std.specs.List.{flat_map}
use Rattle.hii_bytes.specs.Watching.{pen_of}
use Rattle.hii_bytes.specs.code.Writing.{Stands}
use Rattle.audit_json.specs.Json.{json_char}
use Rattle.audit_json.proofs.strings.put_json_bytes.Given as goal

-- the characters before those that are left are written
abbrev pub invariant-loop-byte : goal.invariant-loop-byte
invariant-loop-byte g l = Stands (pen_of g.W.Write.contents l.fn.out) (pen_of g.W.Write.contents l.out) (codes "\"" ++ flat_map json_char l.text) (flat_map json_char (drop l.byte-index l.text))
