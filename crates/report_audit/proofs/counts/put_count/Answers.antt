use Rattle.std.proofs.Common.{◌≡◌, ◌==◌, false, subst, sym}
use Rattle.std.proofs.lemmas.Bool.{cond-false, ne_eqb}
use Rattle.hii_bytes.specs.Watching.{Writes}
use Rattle.hii_bytes.proofs.WritingLemmas.{◌⨾◌}
use Rattle.report_audit.proofs.counts.put_count.Goals as goal

pub returns : goal.returns
returns g c =
    let some : (c.args.count == 0) ≡ false = ne_eqb c.args.count 0 c.if-count-eq0.false in
    let told = rw (c.as_bytes.ensures.value, c.standing_class.ensures, c.as_bytes-2.ensures.value, c.standing_word.ensures) at
    (c.put.ensures ⨾ c.put-2.ensures ⨾ c.put-3.ensures ⨾ c.put_decimal.ensures ⨾ c.put-4.ensures ⨾ c.put-5.ensures ⨾ c.put-6.ensures) in
    subst (Writes _ _) (sym (cond-false (c.args.count == 0) _ _ some)) told
