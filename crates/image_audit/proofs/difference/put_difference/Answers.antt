use Rattle.hii_bytes.proofs.WritingLemmas.{◌⨾◌}
use Rattle.image_audit.proofs.difference.put_difference.Goals as goal

pub returns-clause-written : goal.returns-clause-written
returns-clause-written g c =
    let bytes = rw (c.forms-forms.ensures, c.policy-2.ensures, c.stores-4.ensures, c.give_fields.ensures.given, c.stores-3.ensures, c.stores-2.ensures, c.questions.ensures.own, c.in_ok-given.ensures.same, c.stores.ensures) at
    c.put_bytes.ensures in
    c.put_values.ensures ⨾ bytes ⨾ c.put_verdicts.ensures
