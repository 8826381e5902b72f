-- What a page of the code stands for in an audit.
use Rattle.hii_questions.specs.Answers.{answers}
use Rattle.hii_languages.specs.code.Views.{choice_of}
use Rattle.ifr_nodes.specs.Nodes.{nodes_of}
use Rattle.ifr_defaults.specs.code.Views.{sources_of}
use Rattle.guard_policy.specs.code.Views.{bytes_of}
use Rattle.guard_policy.specs.declared.conditions.Conditions.{Ghosts}
use Rattle.form_page.specs.code.PageViews.{texts_of, world_of}
use Rattle.form_page.specs.declared.page.Page.{Page}
use Rattle.question_audit.specs.Audited.{Audited}

-- the form set of a page over the page's stores, whichever form the page is of
abbrev pub audited : {C : Type 0} {g : Ghosts C} → Page C g → Audited
audited page = record {
  texts = texts_of page;
  world = world_of page;
  stores = page.stores.now;
  sources = sources_of (bytes_of page.policy)
      (answers (nodes_of (bytes_of page.policy)) page.stores.now)
      page.languages.now (choice_of page.choice);
}
