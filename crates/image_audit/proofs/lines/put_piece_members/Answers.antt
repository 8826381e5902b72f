use Rattle.hii_bytes.proofs.WritingLemmas.{◌⨾◌}
use Rattle.image_audit.proofs.lines.put_piece_members.Goals as goal

pub returns : goal.returns
returns g c = rw (c.from.ensures, c.name.ensures, c.number_of.ensures) at (c.put_number.ensures ⨾ c.put_string.ensures ⨾ c.put_number-2.ensures ⨾ c.put_number-3.ensures ⨾ c.put_number-4.ensures)
