use Rattle.std.proofs.Common.{◌≡◌, false, rules, bytes_eq, replicate}
use Rattle.question_objects.proofs.limits.put_form_set.Goals as goal

pub returns-else-eq : goal.returns-else-eq
returns-else-eq g c =
    let other : bytes_eq c.in-Some.guid.bytes.now (replicate 16 0) ≡ false = search rules in
    rw (c.in-Some.is, other) c.put_guid_member.ensures
