use Rattle.std.proofs.Common.{rules}
use Rattle.std.proofs.lemmas.Int.{to_z-of_z}
use Rattle.hii_bytes.proofs.WritingLemmas.{◌⨾◌}
use Rattle.check_audit.proofs.warning_lines.put_signed_member.Goals as goal
use mir.Syntax.{w128}
use mir.Val.{SFits}

pub returns : goal.returns
returns g c =
    let fits : SFits w128 c.args.number = search rules in
    c.put_member.ensures ⨾ (simp to_z-of_z at c.put_signed.ensures)
