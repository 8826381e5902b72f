-- What the elements of a list have before them.
use Rattle.std.specs.Prelude.{ℕ, Option, List, map}
use Rattle.ifr_scopes.specs.code.Lists.{statement_node}
use Rattle.hii_values.specs.code.StoredLeft.{stored_left}
use Rattle.guard_policy.specs.declared.conditions.Conditions.{Ghosts}
use Rattle.form_page.specs.code.PageViews.{texts_of, world_of}
use Rattle.form_page.specs.RowValues.{choice}
use Rattle.form_page.specs.declared.option_texts.Elements.{Elements}

-- the texts of the elements that are left
abbrev pub elements_left : {C : Type 0} {g : Ghosts C} → Elements C g → List (Option (List ℕ))
elements_left it =
    map (choice (texts_of it.page) (world_of it.page) (statement_node it.statement))
    (stored_left it.items)
