use Rattle.hii_bytes.proofs.WritingLemmas.{◌⨾◌}
use Rattle.question_rows.proofs.rows.put_row_head.Goals as goal

pub returns : goal.returns
returns g c =
    rw (c.from.ensures, c.place.ensures, c.id.ensures) at
    (c.put.ensures ⨾ c.put_hexadecimal.ensures.text ⨾ c.put-2.ensures ⨾ c.put_id_cell.ensures ⨾ c.put-3.ensures ⨾ c.put_state_cell.ensures)
