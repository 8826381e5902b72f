-- What is seen of a page of the code.
use Rattle.guard_policy.specs.declared.conditions.Conditions.{Ghosts}
use Rattle.form_page.specs.code.PageViews.{texts_of, world_of}
use Rattle.form_page.specs.declared.page.Page.{Page}
use Rattle.script_audit.specs.Values.{Seen}

-- the form set of a page over the page's stores
abbrev pub seen_in : {C : Type 0} {g : Ghosts C} → Page C g → Seen
seen_in page = record { texts = texts_of page; world = world_of page; stores = page.stores.now }
