use Rattle.form_page.proofs.FrontLemmas.{utf8_copied}
use Rattle.form_page.proofs.LineLemmas.{◌▹◌}
use Rattle.form_page.proofs.shown.put_units.Goals as goal

pub returns : goal.returns
returns g c = rw (utf8_copied _ _ _ _ _ c.copy_plain-count.ensures) (rw c.chars.ensures at (c.put.ensures ▹ c.put_chars.ensures))
