use Rattle.hii_bytes.proofs.WritingLemmas.{◌⨾◌}
use Rattle.image_audit.proofs.lines.put_piece_line.Goals as goal

pub returns : goal.returns
returns g c = c.put_range.ensures ⨾ c.put.ensures ⨾ c.put_hex_number.ensures ⨾ c.put-2.ensures
