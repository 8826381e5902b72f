use Rattle.std.proofs.Common.{◌∙◌, ap, List, ℕ, ◌++◌, ◌*◌}
use Rattle.browser_rules.specs.Strings.{characters}
use Rattle.form_page.proofs.PieceLemmas.{digits_alone}
use Rattle.form_page.specs.RowValues.{hex_digits}
use Rattle.form_page.proofs.value_chars.RowValueChars.hexadecimal.Goals as goal

pub returns : goal.returns
unfolding characters
returns g c = digits_alone _ _ _ _ c.chars.ensures (c.chars-2.ensures ∙ ap characters c.new.ensures) ∙ ap (λ (front : List ℕ). front ++ hex_digits (2 * c.args.number.width) c.args.number.number) c.of.ensures
