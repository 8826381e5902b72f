use Rattle.form_page.proofs.LineLemmas.{◌▹◌}
use Rattle.form_page.proofs.shown.put_chars_in_columns.Goals as goal

pub returns : goal.returns
returns g c = rw c.put_cut-room.ensures.left at (c.put_cut-room.ensures.text ▹ c.put_spaces.ensures)
