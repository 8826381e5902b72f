use Rattle.std.proofs.Common.{◌≡◌, false, rules, bytes_eq, replicate}
use Rattle.hii_bytes.proofs.WritingLemmas.{◌⨾◌}
use Rattle.question_audit.proofs.limits_facts.put_form_set.Goals as goal

pub returns : goal.returns
returns g c =
    let other : bytes_eq c.args.guid.bytes.now (replicate 16 0) ≡ false = search rules in
    rw other (c.put_column.ensures ⨾ (c.put.ensures ⨾ c.put_guid.ensures) ⨾ c.put-2.ensures)
