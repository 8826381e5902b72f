use Rattle.std.proofs.lemmas.Result.{err_from_is_err_and}
use Rattle.session_laws.proofs.OpenedLemmas.{stands_opened}
use Rattle.browser_core.proofs.BrowsedLemmas.{only_memory, opens, refused}
use Rattle.browser_core.proofs.browsed.Browsed.open.Goals as goal

pub invariant_of-result : goal.invariant_of-result
invariant_of-result c = stands_opened c.args.list.now c.args.forms c.args.stores.now c.args.lang.now c.in_ok-browser.browser.state c.in_ok-browser.ensures.opened.0 c.are_bytes.ensures c.are_bytes-2.ensures

pub returns-clause-opened : goal.returns-clause-opened
returns-clause-opened c =
    (opens c.args.list.now c.args.forms c.args.stores.now c.args.lang.now c.in_ok-browser.browser.state c.in_ok-browser.ensures.opened.0 c.are_bytes.ensures c.are_bytes-2.ensures, c.in_ok-browser.ensures.opened.1)

pub returns-in_err-browser-clause-refused : goal.returns-in_err-browser-clause-refused
returns-in_err-browser-clause-refused c =
    let p = err_from_is_err_and c.from_residual.result c.from_residual.ensures.1 in
    rw (p.1, p.2) (refused c.args.list.now c.args.forms c.args.stores.now _ c.are_bytes.ensures c.in_err-browser.ensures.refused)

pub returns-in_err-browser-clause-accepted : goal.returns-in_err-browser-clause-accepted
returns-in_err-browser-clause-accepted c =
    let p = err_from_is_err_and c.from_residual.result c.from_residual.ensures.1 in
    λ sound. rw (p.1, p.2) (only_memory c.args.list.now c.args.forms c.args.stores.now _ c.are_bytes.ensures c.in_err-browser.ensures.refused sound)
