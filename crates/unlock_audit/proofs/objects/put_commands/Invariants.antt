use Rattle.std.proofs.Common.{[], ◌∷◌, ◌++◌, codes, drop, map}
use Rattle.std.specs.Prelude.{if◌then◌else◌}
use Rattle.hii_bytes.specs.Watching.{pen_of}
use Rattle.audit_json.specs.Objects.{quoted}
use Rattle.audit_json.proofs.ArrayLemmas.{Lists}
use Rattle.unlock_audit.specs.Told.{command_item, command_items}
use Rattle.unlock_audit.proofs.objects.put_commands.Given as goal

-- the commands before those that are left are written
abbrev pub invariant-loop-each : goal.invariant-loop-each
invariant-loop-each g l =
    Lists (codes "commands") (command_items l.again l.list) (map command_item (drop l.each-index l.list) ++ (if l.again then quoted (codes "submit") ∷ [] else [])) l.is_first
    (pen_of g.W.Write.contents l.fn.out) (pen_of g.W.Write.contents l.out)
