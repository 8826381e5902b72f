use Rattle.std.proofs.Common.{◌≡◌, [], List, ap, subst, sym, ◌∙◌}
use Rattle.std.specs.Prelude.{not}
use Rattle.hii_bytes.specs.Watching.{Pen, Writes, pen_of}
use Rattle.hii_bytes.proofs.WritingLemmas.{writes_nil}
use Rattle.hii_questions.specs.code.Views.{question_view}
use Rattle.guard_policy.specs.declared.denial.Denial.{Denial}
use Rattle.form_page.specs.code.PageViews.{world_of}
use Rattle.question_audit.specs.Reasons.{all_reasons, also_fact, also_facts, further}
use Rattle.question_audit.proofs.FactLemmas.{all_left, none_left, past_item}
use Rattle.question_audit.proofs.ReasonLemmas.{behind_first, no_first}
use Rattle.question_audit.proofs.reasons.put_also.Goals as goal

-- of no reasons nothing is written
nothing_also : (pen : Pen) (denials : List Denial) → denials ≡ [] → Writes pen pen (also_facts denials)
nothing_also pen denials none = subst (λ (ds : List Denial). Writes pen pen (also_facts ds)) (sym none) (writes_nil pen)

pub returns-then-is_none : goal.returns-then-is_none
returns-then-is_none g c =
    let none = sym c.of-reasons.ensures ∙ no_first c.next.result _ _ (c.is_none.ensures ∙ ap not c.if-is_none.true) c.next.ensures.steps in
    nothing_also (pen_of g.W.Write.contents c.args.out.now) _ none

pub loop-denial-init : goal.loop-denial-init
loop-denial-init g c =
    let all = all_reasons (world_of c.args.page) (question_view c.args.question) in
    all_left also_fact (pen_of g.W.Write.contents c.args.out.now) (further all) _ (behind_first c.next.result _ _ c.next.ensures.steps ∙ ap further c.of-reasons.ensures)

pub loop-denial-preserved : goal.loop-denial-preserved
loop-denial-preserved g c = past_item also_fact _ _ _ _ _ _ c.in-Some.denial c.in-Some.ensures.steps c.loop-denial.invariant c.put_further.ensures

pub returns : goal.returns
returns g c = none_left also_fact _ _ _ _ c.in_default.ensures.steps.0 c.loop-denial.invariant
