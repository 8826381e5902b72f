use Rattle.std.proofs.Common.{◌++◌, codes, drop, map}
use Rattle.std.specs.List.{flat_map}
use Rattle.hii_bytes.specs.Watching.{pen_of}
use Rattle.hii_bytes.specs.code.Writing.{Stands}
use Rattle.audit_text.specs.Texts.{joined}
use Rattle.unlock_audit.specs.Told.{set_text}
use Rattle.unlock_audit.proofs.lines.put_commands.Given as goal

-- the commands before those that are left are written
abbrev pub invariant-loop-each : goal.invariant-loop-each
invariant-loop-each g l = Stands (pen_of g.W.Write.contents l.fn.out) (pen_of g.W.Write.contents l.out) (joined (codes "; ") (map set_text l.list)) (flat_map (λ next. codes "; " ++ next) (map set_text (drop l.each-index l.others)))
