use Rattle.std.proofs.Common.{◌≡◌, ◌/◌, List, ◌++◌, ℕ, length, min, Vec, Global, sym, ap, ◌∙◌, take-append-drop, arith}
use Rattle.std.proofs.lemmas.Result.{IfOk-weaker}
use Rattle.hii_questions.specs.code.Steps.{first_from, value_at}
use Rattle.hii_questions.specs.declared.entry.QuestionEntry.{QuestionEntry}
use Rattle.hii_questions.specs.declared.merging.Step.{Step}
use Rattle.hii_questions.proofs.StepLemmas.{first_split}
use Rattle.hii_questions.proofs.steps.+steps_of.Goals as goal

pub returns-in_ok-right-in_default-clause-first : goal.returns-in_ok-right-in_default-clause-first
returns-in_ok-right-in_default-clause-first t c =
    let none = c.args.none in
    let number = c.args.number in
    let left = c.in_ok-left-in_default.left.items in
    let right = c.in_ok-right-in_default.right.items in
    let front = c.split_at.result.0.now in
    let back = c.split_at.result.1.now in
    let whole : front ++ back ≡ c.args.questions.now = rw (c.split_at.ensures.front, c.split_at.ensures.back) (take-append-drop (length c.args.questions.now / 2) c.args.questions.now) in
    IfOk-weaker c.merged.result (λ (steps : Vec Step Global). (at : ℕ) → value_at none steps.items at ≡ min (value_at none left at) (value_at none right at)) _
    (λ steps told at.
    told at ∙ ap (λ (v : ℕ). min v (value_at none right at)) (c.in_ok-left-in_default.ensures.first at) ∙ ap (λ (v : ℕ). min (first_from none number front at) v) (c.in_ok-right-in_default.ensures.first at)
    ∙ sym (first_split none number front back at (let z = c.split_at.ensures.front_len in let w = c.split_at.ensures.back_len in omega (arith, c.requires, z, w))) ∙ ap (λ (qs : List QuestionEntry). first_from none number qs at) whole)
    (rw (sym c.deref.ensures.value, sym c.deref-in_default.ensures.value) c.merged.ensures.least)
