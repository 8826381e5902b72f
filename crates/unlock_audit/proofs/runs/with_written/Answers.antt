use Rattle.std.proofs.Common.{List, ℕ, ap, subst, sym, ◌∙◌}
use Rattle.hii_varstore.specs.Stores.{StoreMap, shape_of}
use Rattle.hii_varstore.specs.code.Ranges.{HasRange}
use Rattle.hii_questions.specs.code.Checks.{range_of}
use Rattle.hii_questions.specs.code.Views.{question_view}
use Rattle.guard_policy.specs.declared.policy.Policy.{Policy}
use Rattle.question_audit.proofs.AskedLemmas.{IsFoundWith, found_with}
use Rattle.unlock_audit.proofs.RunLemmas.{has_range}
use Rattle.unlock_audit.proofs.runs.with_written.Goals as goal

pub put-requires : goal.put-requires
put-requires c =
    let s = c.args.browser.now.state in
    let q = question_view c.in-Some.question in
    let field = range_of c.in-Ok.field in
    let there = c.forms.ensures ∙ ap (λ (p : Policy). p.forms.now) c.policy.ensures in
    let asked = c.questions.ensures.own ∙ sym (ap (λ (p : Policy). p.forms.now) c.policy.ensures) ∙ sym c.forms.ensures in
    let found = found_with c.forms.result.now c.questions.result.now.ifr c.args.each.id q c.bytes.ensures.accepted.checked.spelled asked c.in-Some.ensures in
    let own = subst (λ (b : List ℕ). IsFoundWith b c.args.each.id q) (there ∙ c.page-page.ensures.bytes) found in
    let stores = c.in_ok-stores.ensures.same ∙ c.stores.ensures ∙ c.page-page.ensures.stores in
    subst (λ (m : StoreMap). HasRange (shape_of m) field.store field.offset field.width) (sym stores) (has_range s.ifr c.args.each.id q field (shape_of s.working) c.page-page.ensures.fields own c.in-Ok.ensures.given.1)
