use Rattle.std.proofs.Common.{◌≡◌, false, rules, bytes_eq, replicate}
use Rattle.hii_bytes.proofs.WritingLemmas.{◌⨾◌}
use Rattle.question_rows.proofs.leads.put_form_set.Goals as goal

pub returns-else-eq : goal.returns-else-eq
returns-else-eq g c =
    let other : bytes_eq c.in-Some.guid.bytes.now (replicate 16 0) ≡ false = search rules in
    rw (c.in-Some.is, other) (c.put.ensures ⨾ (c.put-in-Some.ensures ⨾ c.put_guid.ensures ⨾ c.put-in-Some-2.ensures) ⨾ c.put-in-Some-3.ensures)
