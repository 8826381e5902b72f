use Rattle.ifr_scopes.specs.code.Lists.{form_node}
use Rattle.form_page.specs.code.PageViews as pages
use Rattle.browser_core.proofs.BrowsedLemmas.{page_by_rules}
use Rattle.browser_core.proofs.browsed.Browsed.page.Goals as goal

pub returns-clause-text : goal.returns-clause-text
returns-clause-text c =
    let page = c.page.result in
    page_by_rules c.self.inside.browser c.args.self.now (form_node page.form) (pages.texts_of page) (pages.world_of page) page.stores.now c.self.invariant c.self.view_is
    c.page.ensures.form c.page.ensures.world c.page.ensures.stores c.page.ensures.texts
