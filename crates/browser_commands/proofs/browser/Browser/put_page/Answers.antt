use Rattle.std.proofs.Common.{ℕ, List, Option, sym, subst}
use Rattle.hii_bytes.specs.Watching.{pen_of, Writes}
use Rattle.ifr_opcodes.specs.Forest.{Node}
use Rattle.ifr_scopes.specs.code.Lists.{form_node}
use Rattle.hii_varstore.specs.Stores.{StoreMap}
use Rattle.guard_policy.specs.World.{World}
use Rattle.form_page.specs.Pages.{page_text}
use Rattle.form_page.specs.code.PageViews as pages
use Rattle.session_steps.specs.State.{world_of, texts}
use Rattle.session_steps.specs.Step.{page_at}
use Rattle.browser_commands.proofs.browser.Browser.put_page.Goals as goal

pub returns : goal.returns
returns g c =
    let s = c.args.self.now.state in
    let page = c.page.result in
    let a = pen_of g.W.Write.contents c.args.out.now in
    let b = pen_of g.W.Write.contents c.put_page.new.out in
    let form = form_node page.form in
    let by_texts = subst (λ (t : ℕ → List ℕ). Writes a b (page_text t (pages.world_of page) page.stores.now form)) c.page.ensures.texts c.put_page.ensures in
    let by_world = subst (λ (w : World). Writes a b (page_text (texts s) w page.stores.now form)) c.page.ensures.world by_texts in
    let by_stores = subst (λ (m : StoreMap). Writes a b (page_text (texts s) (world_of s) m form)) c.page.ensures.stores by_world in
    subst (λ (o : Option Node). Writes a b (page_at s o)) (sym c.page.ensures.form) by_stores
