use Rattle.std.proofs.Common.{refl, sym, ◌∙◌}
use Rattle.form_page.proofs.FrontLemmas.{all_copied, columns_copied}
use Rattle.form_page.proofs.LineLemmas.{◌▹◌}
use Rattle.form_page.proofs.shown.put_units_in_columns.Goals as goal

pub returns-then-is_empty : goal.returns-then-is_empty
returns-then-is_empty g c = rw (all_copied 24 _ _ _ _ (sym c.is_empty.ensures ∙ c.if-is_empty.true) c.copy_plain-count.ensures) c.put.ensures

pub returns : goal.returns
returns g c = rw (columns_copied 24 _ _ _ _ _ refl c.copy_plain-count.ensures) (rw c.chars.ensures at (c.put-2.ensures ▹ c.put_chars_in_columns.ensures))
