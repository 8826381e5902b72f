use Rattle.std.proofs.Common.{◌≡◌, true, ap, sym, ◌∙◌}
use Rattle.condition_text.proofs.WriteLemmas.{written_as}
use Rattle.script_audit.specs.Apply.{Applied, changes_told, is_settled, unsubmitted}
use Rattle.script_audit.specs.Values.{Seen}
use Rattle.script_audit.specs.Walk.{seen}
use Rattle.script_audit.proofs.EndLemmas.{settled_end}
use Rattle.script_audit.proofs.WalkLemmas.{page_seen}
use Rattle.script_audit.proofs.applying.put_end.Goals as goal

pub returns-then-are_same-clause-told : goal.returns-then-are_same-clause-told
returns-then-are_same-clause-told g c =
    let s = c.args.browser.now.state in
    let settled : is_settled (unsubmitted s) ≡ true = rw (c.committed-committed.ensures, c.stores.ensures, c.page-page.ensures.stores, c.questions.ensures.own, c.page-page.ensures.bytes) at (sym c.are_same.ensures ∙ c.if-are_same.true) in
    let its = page_seen c.page-page.result s c.page-page.ensures.texts c.page-page.ensures.world c.page-page.ensures.stores in
    let told = changes_told c.args.telling in
    written_as c.put_changes.ensures
    (ap (λ (a : Seen). told a c.args.first.now c.committed-committed.result.now) its ∙ ap (told (seen s) c.args.first.now) c.committed-committed.ensures
    ∙ sym (ap (λ (a : Applied). a.told) (settled_end c.args.telling c.args.first.now s (unsubmitted s) settled)))

pub returns-then-are_same-clause-left : goal.returns-then-are_same-clause-left
returns-then-are_same-clause-left g c =
    let s = c.args.browser.now.state in
    let settled : is_settled (unsubmitted s) ≡ true = rw (c.committed-committed.ensures, c.stores.ensures, c.page-page.ensures.stores, c.questions.ensures.own, c.page-page.ensures.bytes) at (sym c.are_same.ensures ∙ c.if-are_same.true) in
    ap (λ (a : Applied). a.left) (settled_end c.args.telling c.args.first.now s (unsubmitted s) settled)
