use Rattle.std.proofs.Common.{◌≡◌, ◌<◌, ◌^◌, ℕ, List, [], Some, length, sym, ap, subst, ◌∙◌}
use Rattle.std.specs.Option.{unwrap_or}
use Rattle.std.proofs.lemmas.Result.{err_from_is_err_and}
use Rattle.config_text.specs.code.TextViews.{request_view}
use Rattle.ifr_nodes.specs.Nodes.{nodes_of}
use Rattle.hii_varstore.specs.Layout.{Shape}
use Rattle.hii_varstore.specs.Stores.{bytes_of}
use Rattle.hii_varstore.specs.code.Table.{AreBuffers}
use Rattle.guard_policy.proofs.DenialLemmas.{none_of, some_of}
use Rattle.session_steps.specs.Configuration.{store_named}
use Rattle.session_steps.specs.State.{State}
use Rattle.session_steps.specs.Step.{extract_from}
use Rattle.browser_commands.proofs.TellingLemmas.{no_store, some_store, store_small, bytes_there, is_told, is_untold}
use Rattle.browser_commands.proofs.Browsers.{seen}
use Rattle.browser_commands.proofs.browser.Browser.told_bytes.Goals as goal

pub returns-in_err-store : goal.returns-in_err-store
returns-in_err-store c =
    let s = c.args.self.now.state in
    let request = request_view c.args.request.now in
    let none = no_store _ _ c.in_err-store.field-0.0 (rw c.header.ensures at c.in_err-store.ensures) in
    let p = err_from_is_err_and c.from_residual.result c.from_residual.ensures.1 in
    rw (p.1, p.2, none.1) (ap (extract_from s request) none.0)

pub blocks_asked-blocks-requires : goal.blocks_asked-blocks-requires
blocks_asked-blocks-requires c =
    let sound = subst (λ (sh : Shape). AreBuffers sh.buffers) (sym c.self.invariant.submitted) c.self.invariant.buffers in
    let is = ap (λ b. b.now) c.unwrap_or-bytes.ensures ∙ bytes_there c.bytes.result _ ∙ ap (λ o. unwrap_or o []) c.bytes.ensures in
    subst (λ (bs : List ℕ). length bs < 2 ^ 16) (sym is) (store_small c.self.inside.committed c.in_ok-store.store sound)

pub returns-in_err-blocks_told : goal.returns-in_err-blocks_told
returns-in_err-blocks_told c =
    let s = c.args.self.now.state in
    let request = request_view c.args.request.now in
    let store = c.in_ok-store.store in
    let named : store_named (nodes_of s.ifr) s.path request.0 ≡ Some store = some_store _ store _ (rw c.header.ensures at c.in_ok-store.ensures) in
    let is = ap (λ b. b.now) c.unwrap_or-bytes.ensures ∙ bytes_there c.bytes.result _ ∙ ap (λ o. unwrap_or o []) (c.bytes.ensures ∙ ap (λ (t : State). bytes_of t.committed store) (seen c.self.view_is)) in
    let why = rw (c.blocks_asked-blocks.ensures, c.self.invariant.together ∙ ap (λ (t : State). t.ifr) (seen c.self.view_is)) at c.in_err-blocks_told.ensures in
    let p = err_from_is_err_and c.from_residual-in_err-blocks_told.result c.from_residual-in_err-blocks_told.ensures.1 in
    rw (p.1, p.2) (is_untold s request store c.unwrap_or-bytes.result.now c.in_err-blocks_told.field-0.0 named is (some_of _ _ (sym why)))

pub returns : goal.returns
returns c =
    let s = c.args.self.now.state in
    let request = request_view c.args.request.now in
    let store = c.in_ok-store.store in
    let sound = subst (λ (sh : Shape). AreBuffers sh.buffers) (sym c.self.invariant.submitted) c.self.invariant.buffers in
    let named : store_named (nodes_of s.ifr) s.path request.0 ≡ Some store = some_store _ store _ (rw c.header.ensures at c.in_ok-store.ensures) in
    let here = ap (λ b. b.now) c.unwrap_or-bytes.ensures ∙ bytes_there c.bytes.result _ ∙ ap (λ o. unwrap_or o []) c.bytes.ensures in
    let is = here ∙ ap (λ (t : State). unwrap_or (bytes_of t.committed store) []) (seen c.self.view_is) in
    let free = rw (c.blocks_asked-blocks.ensures, c.self.invariant.together ∙ ap (λ (t : State). t.ifr) (seen c.self.view_is)) at c.in_ok-blocks_told.ensures in
    is_told s request store c.unwrap_or-bytes.result.now named is (subst (λ (bs : List ℕ). length bs < 2 ^ 16) (sym here) (store_small c.self.inside.committed store sound)) (none_of _ (sym free))
