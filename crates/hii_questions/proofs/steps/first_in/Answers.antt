use Rattle.std.proofs.Common.{◌≡◌, length, slice_get, find, refl, sym, ◌∙◌, arith, rules}
use Rattle.std.proofs.lemmas.Option.{slice_get_read, slice_get_past}
use Rattle.hii_questions.specs.code.Entries.{entry_field}
use Rattle.hii_questions.proofs.StepLemmas.{first_found, meets_in}
use Rattle.hii_questions.proofs.steps.first_in.Goals.{After-least_within-first}
use Rattle.hii_questions.proofs.steps.first_in.Goals as goal

-- what is found is the question of the least number
found : (c : After-least_within-first) → find (λ e. meets_in c.args.field (entry_field e)) c.args.questions.now ≡ slice_get c.args.questions.now c.least_within-first.result
found c =
    first_found c.args.questions.now c.args.steps.now c.args.field c.least_within-first.result c.first.ensures.small c.requires
    (rw (sym c.behind.ensures, sym c.first.ensures.number) c.least_within-first.ensures)

pub returns-then-first-questions : goal.returns-then-first-questions
returns-then-first-questions c =
    sym (slice_get_read c.args.questions.now (length c.args.questions.now) c.least_within-first.result _ refl (omega (arith, c.if-first-questions.true)) (search rules)) ∙ sym (found c.before.before)

pub returns-else-first-questions : goal.returns-else-first-questions
returns-else-first-questions c = sym (slice_get_past c.args.questions.now c.least_within-first.result c.if-first-questions.false) ∙ sym (found c.before)
