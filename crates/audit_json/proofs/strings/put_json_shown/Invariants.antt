use Rattle.std.proofs.Common.{codes, ◌++◌}
use Rattle.std.specs.List.{flat_map}
use Rattle.hii_bytes.specs.Watching.{pen_of}
use Rattle.hii_bytes.specs.code.Writing.{Stands}
use Rattle.hii_languages.specs.code.Views.{chars_left}
use Rattle.audit_json.specs.Json.{json_char}
use Rattle.audit_json.proofs.strings.put_json_shown.Given as goal

-- the characters before those that are left are written
abbrev pub invariant-loop-c : goal.invariant-loop-c
invariant-loop-c g l = Stands (pen_of g.W.Write.contents l.fn.out) (pen_of g.W.Write.contents l.out) (codes "\"" ++ flat_map json_char (chars_left l.fn.text)) (flat_map json_char (chars_left l.text))
