use Rattle.std.proofs.Common.{◌≡◌, ◌∙◌, ap, refl}
use Rattle.hii_questions.specs.code.Views.{question_node}
use Rattle.guard_policy.specs.Policy.{fixed}
use Rattle.guard_policy.specs.code.Answers.{unless}
use Rattle.guard_policy.specs.code.Views.{world}
use Rattle.guard_policy.specs.declared.policy.Policy.{Policy}
use Rattle.guard_policy.specs.declared.support.Decision.TheVariants.{Changeable}
use Rattle.question_audit.proofs.KeptLemmas.{kept_told}
use Rattle.question_rows.specs.States.{standing_class, standing_of}
use Rattle.report_audit.proofs.counts.stands_so.Goals as goal

pub returns : goal.returns
returns g c =
    let page = c.args.page in
    let stores = page.stores.now in
    let n = question_node c.args.question in
    let statement = c.args.question.statement in
    let tells = kept_told page.policy c.policy.result stores (g.C.Conditions.holding c.conditions.result.now) (Changeable statement) c.policy.ensures c.conditions.ensures c.requires.node refl in
    let verdict = c.question_changeable_by-verdict.ensures statement refl stores tells ∙ ap (λ (p : Policy). unless (fixed (world p stores) n)) c.policy.ensures in
    let stands : c.standing_class.result.now ≡ standing_class (standing_of (fixed (world page.policy stores) n)) =
    c.standing_class.ensures ∙ ap standing_class (c.standing_of.ensures (fixed (world page.policy stores) n) verdict) in
    c.eq.ensures ∙ rw (stands, c.standing_class-2.ensures) refl
