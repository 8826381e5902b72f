use Rattle.std.proofs.Common.{subst, sym}
use Rattle.hii_bytes.specs.Watching.{Writes}
use Rattle.hii_bytes.proofs.WritingLemmas.{writes_nil}
use Rattle.script_audit.specs.code.Pages.{seen_in}
use Rattle.script_audit.proofs.CommandLemmas.{no_warnings}
use Rattle.script_audit.proofs.walk.put_behind.Goals as goal

pub returns-in_default : goal.returns-in_default
returns-in_default g c =
    let other = c.in_default in
    subst (Writes _ _) (sym (no_warnings c.args.telling c.args.number (seen_in c.args.page) c.args.command other.not-Set other.not-Order other.not-Text)) (writes_nil _)
