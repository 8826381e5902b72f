use Rattle.std.proofs.Common.{◌∙◌, sym, ap, List, ℕ, ◌∷◌}
use Rattle.form_page.specs.code.CharViews.{behind_text}
use Rattle.form_page.specs.RowValues.{later_text}
use Rattle.form_page.proofs.PieceLemmas.{next_element}
use Rattle.form_page.proofs.value_chars.RowValueChars.step_behind.Goals as goal

pub returns-in_ok-element-in-Elements : goal.returns-in_ok-element-in-Elements
returns-in_ok-element-in-Elements g c =
    next_element _ _ _ _ _ _ c.requires c.choice_parts-front.ensures (ap behind_text c.in-Elements.is ∙ ap later_text c.in_ok-element-in-Elements.ensures)
    ∙ ap (λ (l : List ℕ). 44 ∷ l) (sym c.new.ensures)
