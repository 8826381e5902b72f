use Rattle.std.proofs.Common.{◌∙◌, ap}
use Rattle.browser_rules.specs.Strings.{characters}
use Rattle.form_page.proofs.PieceLemmas.{without_units}
use Rattle.form_page.proofs.value_chars.RowValueChars.new.Goals as goal

pub returns : goal.returns
unfolding characters
returns g c = without_units _ _ _ _ (c.chars.ensures ∙ ap characters c.new.ensures)
