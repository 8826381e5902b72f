use Rattle.std.proofs.Common.{ap}
use Rattle.hii_bytes.proofs.WritingLemmas.{◌⨾◌, writes_nil}
use Rattle.condition_text.proofs.WriteLemmas.{written_as}
use Rattle.question_objects.specs.Heads.{guid_of_store}
use Rattle.question_objects.proofs.heads.put_store.Goals as goal

pub returns-in-Some : goal.returns-in-Some
returns-in-Some g c =
    (rw (c.from.ensures, c.name.ensures) at (c.put_number.ensures ⨾ c.put_string.ensures)) ⨾ written_as (rw c.guid.ensures at c.put_guid_member.ensures) (ap guid_of_store c.in-Some.ensures)

pub returns-in_default : goal.returns-in_default
returns-in_default g c = (rw (c.from.ensures, c.name.ensures) at (c.put_number.ensures ⨾ c.put_string.ensures)) ⨾ written_as (writes_nil _) (ap guid_of_store c.in_default.ensures)
