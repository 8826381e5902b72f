use Rattle.std.proofs.Common.{◌≡◌, ℕ, Option, Some, None, Ok, Err, Result, refl, sym, ap, ◌∙◌}
use Rattle.std.specs.Result.{result_err}
use Rattle.ifr_scopes.specs.code.Lists.{statement_node}
use Rattle.guard_policy.specs.Policy.{fixed}
use Rattle.guard_policy.specs.code.Answers.{unless}
use Rattle.guard_policy.specs.code.Views.{world}
use Rattle.guard_policy.specs.declared.denial.Denial.{Denial}
use Rattle.guard_policy.specs.declared.policy.Policy.{Policy}
use Rattle.guard_policy.specs.declared.support.Decision.TheVariants.{Changeable}
use Rattle.form_page.specs.code.PageViews.{world_of}
use Rattle.question_audit.proofs.KeptLemmas.{kept_told}
use Rattle.question_audit.proofs.ways.closed_reference.Goals as goal

-- what an answer says of what forbids
forbids : (o : Option Denial) → result_err (unless o) ≡ o
forbids None = refl
forbids (Some denial) = refl

pub returns : goal.returns
returns g c =
    let page = c.args.page in
    let stores = page.stores.now in
    let n = statement_node c.args.statement in
    let tells = kept_told page.policy c.policy.result stores (g.C.Conditions.holding c.conditions.result.now) (Changeable c.args.statement) c.policy.ensures c.conditions.ensures c.requires refl in
    let verdict = c.changeable_by-verdict.ensures stores tells ∙ ap (λ (p : Policy). unless (fixed (world p stores) n)) c.policy.ensures in
    let denial : c.err.result ≡ fixed (world_of page) n = c.err.ensures.value ∙ ap result_err verdict ∙ forbids (fixed (world_of page) n) in
    rw (sym c.in_ok-form.ensures, sym c.contains.ensures, c.if-contains.false, denial) refl
