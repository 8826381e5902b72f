use Rattle.std.proofs.Common.{◌≡◌, ℕ, List, sym, ap, subst, ◌∙◌}
use Rattle.ifr_nodes.specs.Nodes.{nodes_of}
use Rattle.hii_varstore.specs.Layout.{Shape}
use Rattle.hii_questions.specs.Fields.{questions}
use Rattle.hii_questions.specs.code.LyingIn.{LieIn}
use Rattle.guard_policy.specs.code.KeptConditions.{TellsAll}
use Rattle.guard_policy.specs.code.Views.{world}
use Rattle.kept_conditions.specs.Kept.{KeptValues, held, kept_over}
use Rattle.kept_conditions.proofs.TellsLemmas.{tells}
use Rattle.session_steps.specs.State.{State}
use Rattle.browser_commands.proofs.ChangeLemmas.{fields_lie}
use Rattle.browser_commands.proofs.Browsers.{seen}
use Rattle.browser_commands.proofs.browser.Browser.page.Goals as goal

pub new-requires-clause-told : goal.new-requires-clause-told
new-requires-clause-told c =
    let ifr = c.policy.result.forms.now in
    let stores = c.stores.result.now in
    let same : c.self.inside.working.ifr ≡ ifr = c.self.invariant.kept ∙ ap (λ (s : State). s.ifr) (seen c.self.view_is) ∙ sym c.policy.ensures.bytes in
    let kept : c.kept.result.now ≡ kept_over ifr stores = c.kept.ensures ∙ ap (λ (bytes : List ℕ). kept_over bytes c.self.inside.working.stores) same ∙ ap (kept_over ifr) (sym c.stores.ensures) in
    subst (λ (k : KeptValues). TellsAll (held k.values) (world c.policy.result stores)) (sym kept) (tells ifr c.policy.result.removed.now stores c.policy.result.accepted)

pub returns-clause-fields : goal.returns-clause-fields
returns-clause-fields c =
    rw (← c.self.view_is)
    (subst (λ (shape : Shape). LieIn shape (questions (nodes_of c.self.inside.forms))) (sym c.self.invariant.laid) (fields_lie c.self.inside.forms c.self.invariant.browsable))
