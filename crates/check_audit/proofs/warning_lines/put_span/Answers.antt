use Rattle.std.proofs.Common.{rules}
use Rattle.std.proofs.lemmas.Int.{to_z-of_z}
use Rattle.hii_bytes.proofs.WritingLemmas.{◌⨾◌}
use Rattle.check_audit.proofs.warning_lines.put_span.Goals as goal
use mir.Syntax.{w128}
use mir.Val.{SFits}

pub returns : goal.returns
returns g c =
    let low : SFits w128 c.args.span.minimum = search rules in
    let high : SFits w128 c.args.span.maximum = search rules in
    (simp to_z-of_z at c.put_signed.ensures) ⨾ c.put.ensures ⨾ (simp to_z-of_z at c.put_signed-2.ensures)
