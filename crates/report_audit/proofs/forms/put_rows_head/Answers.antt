use Rattle.std.proofs.Common.{◌≡◌, ◌==◌, false, subst, sym}
use Rattle.std.proofs.lemmas.Bool.{cond-false, ne_eqb}
use Rattle.hii_bytes.specs.Watching.{Writes}
use Rattle.hii_bytes.proofs.WritingLemmas.{◌⨾◌}
use Rattle.report_audit.proofs.forms.put_rows_head.Goals as goal

pub returns : goal.returns
returns g c =
    let some : (c.args.count == 0) ≡ false = ne_eqb c.args.count 0 c.if-count-eq0.false in
    subst (Writes _ _) (sym (cond-false (c.args.count == 0) _ _ some)) (c.put-2.ensures ⨾ c.put-3.ensures)
