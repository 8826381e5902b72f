-- What a page shows and decides over.
use Rattle.std.specs.Prelude.{ℕ, List}
use Rattle.browser_rules.specs.Strings.{shown}
use Rattle.hii_languages.specs.code.Views.{choice_of}
use Rattle.guard_policy.specs.code.Views.{world}
use Rattle.guard_policy.specs.World.{World}
use Rattle.guard_policy.specs.declared.conditions.Conditions.{Ghosts}
use Rattle.form_page.specs.declared.page.Page.{Page}

-- the characters that are shown of each string id, in the language of the page
abbrev pub texts_of : {C : Type 0} {g : Ghosts C} → Page C g → ℕ → List ℕ
texts_of page = shown page.languages.now (choice_of page.choice)

-- the form set and the stores of the page
abbrev pub world_of : {C : Type 0} {g : Ghosts C} → Page C g → World
world_of page = world page.policy page.stores.now
