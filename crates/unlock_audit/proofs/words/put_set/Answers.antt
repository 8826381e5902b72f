use Rattle.std.proofs.Common.{rules, ◌∙◌}
use Rattle.std.proofs.lemmas.Int.{to_z-of_z}
use mir.Syntax.{w128}
use mir.Val.{SFits}
use Rattle.hii_bytes.proofs.WritingLemmas.{◌⨾◌}
use Rattle.unlock_audit.proofs.words.put_set.Goals as goal

pub returns : goal.returns
returns g c =
    let fits : SFits w128 c.args.each.value = search rules in
    let digits = c.as_bytes.ensures.value ∙ (simp to_z-of_z at c.format.ensures.text) in
    rw (c.from.ensures, digits) at (c.put.ensures ⨾ c.put_decimal.ensures ⨾ c.put-2.ensures ⨾ c.put-3.ensures)
