use Rattle.std.proofs.Common.{◌≡◌, ◌==◌, ◌-◌, false, None, IfSome, refl, sym, ap, subst, ◌∙◌, arith}
use Rattle.std.specs.List.{slice_get}
use Rattle.std.proofs.lemmas.Bool.{cond-false, ne_eqb}
use Rattle.std.proofs.lemmas.Iterator.Consumers.{YieldsList-from_first, nth_from_yields_List}
use Rattle.ifr_nodes.specs.code.Checked.{IsNodeOf}
use Rattle.ifr_scopes.specs.code.Lists.{form_node, statement_node}
use Rattle.ifr_scopes.specs.code.StatementsLeft.{statements_of_left}
use Rattle.guard_policy.specs.code.Views.{bytes_of}
use Rattle.form_page.specs.Pages.{listed_statements}
use Rattle.form_page.specs.code.ListedViews.{listed_left}
use Rattle.form_page.specs.code.PageViews.{world_of}
use Rattle.form_page.specs.declared.page.Page.{Page}
use Rattle.form_page.proofs.StatementLemmas.{listed_nodes, node_at_index}
use Rattle.form_page.proofs.page.Page.statement_in_row.Goals as goal

pub returns-clause-found : goal.returns-clause-found
returns-clause-found g c =
    let page = c.args.self.now in
    let number = c.args.row in
    let ns = listed_statements (world_of page) (form_node page.form) in
    let above = c.in_ok-above.ensures in
    let none : (number == 0) ≡ false = ne_eqb number 0 (λ e. omega arith) in
    let road = YieldsList-from_first statement_node listed_left ns c.listed-listed.ensures.left in
    nth_from_yields_List c.nth.result c.nth.new.self c.in_ok-above.above c.nth.ensures.ran road ∙ ap (slice_get ns) above.1 ∙ sym (cond-false (number == 0) None (slice_get ns (number - 1)) none)

pub returns-clause-node : goal.returns-clause-node
returns-clause-node g c =
    let it = c.listed-listed.result in
    let road = YieldsList-from_first statement_node listed_left (listed_left it) refl in
    let found = nth_from_yields_List c.nth.result c.nth.new.self c.in_ok-above.above c.nth.ensures.ran road in
    let nodes = listed_nodes (bytes_of it.page.policy) (world_of it.page) (statements_of_left it.statements) it.together in
    subst (λ (page : Page _ _). IfSome c.nth.result (λ statement. IsNodeOf (bytes_of page.policy) (statement_node statement))) c.listed-listed.ensures.page
    (node_at_index statement_node (bytes_of it.page.policy) (listed_left it) c.in_ok-above.above c.nth.result found nodes)
