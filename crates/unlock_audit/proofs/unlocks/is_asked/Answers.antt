use Rattle.std.proofs.Common.{ℕ, ap, sym, ◌∙◌}
use Rattle.std.specs.Prelude.{◌==◌, is_err}
use Rattle.std.proofs.lemmas.Bool.{ne_eqb}
use Rattle.hii_questions.specs.code.Views.{question_view}
use Rattle.guard_policy.specs.Policy.{fixed}
use Rattle.form_page.specs.code.PageViews.{world_of}
use Rattle.unlock_audit.proofs.ToldLemmas.{asked_where, denied_is}
use Rattle.unlock_audit.proofs.unlocks.is_asked.Goals as goal

pub returns : goal.returns
returns g c =
    let w = world_of c.args.page in
    let q = question_view c.args.question in
    let denied = c.is_err.ensures.value ∙ ap is_err c.verdict_of.ensures ∙ denied_is (fixed w q.node) in
    denied ∙ sym (asked_where w q (ap (λ (id : ℕ). id == 0) (sym c.id.ensures) ∙ ne_eqb c.id.result 0 c.if-id-eq0.false) (sym c.is_never_changed.ensures ∙ c.if-is_never_changed.false))
