use Rattle.hii_bytes.proofs.WritingLemmas.{◌⨾◌}
use Rattle.script_audit.proofs.walk.put_warning.Goals as goal

pub returns : goal.returns
returns g c =
    rw (c.from.ensures, c.chars.ensures, c.text.ensures) at
    (c.put_numbered_front.ensures ⨾ c.put.ensures ⨾ c.put_place.ensures ⨾ c.put-2.ensures ⨾ c.put_spelled.ensures ⨾ c.put_back.ensures)
