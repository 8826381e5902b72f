use Rattle.hii_bytes.proofs.WritingLemmas.{◌⨾◌}
use Rattle.image_audit.proofs.lines.put_piece_object.Goals as goal

pub returns : goal.returns
returns g c = c.put_kind.ensures ⨾ c.put_piece_members.ensures ⨾ c.end_object.ensures
