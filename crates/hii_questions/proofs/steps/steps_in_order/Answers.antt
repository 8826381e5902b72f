use Rattle.std.proofs.Common.{◌≡◌, ◌+◌, ◌++◌, ◌∷◌, [], ◌<◌, ℕ, None, Some, length, take, get_or, Vec, Global, ◌≤◌, sym, ap, ◌∙◌, arith}
use Rattle.std.proofs.lemmas.List.{length-take, take_more}
use Rattle.hii_questions.specs.code.ByField.{no_entry}
use Rattle.hii_questions.specs.code.Entries.{entry_field}
use Rattle.hii_questions.specs.code.Numbers.{behind_of, first_of}
use Rattle.hii_questions.specs.code.Steps.{steps_behind}
use Rattle.hii_questions.specs.declared.entry.QuestionEntry.{QuestionEntry}
use Rattle.hii_questions.specs.declared.merging.Step.{Step}
use Rattle.hii_questions.proofs.BehindLemmas.{more_before, passed_before}
use Rattle.hii_questions.proofs.steps.steps_in_order.Goals as goal
use Rattle.hii_questions.proofs.steps.steps_in_order.Goals.{in-Some+else-from-end+else-field-eq0+in_ok-add_behind, in_default}

pub loop-number-preserved : goal.loop-number-preserved
loop-number-preserved c =
    let qs = c.args.questions.now in
    let none = length qs in
    let number = c.loop-number.number in
    let few : number < length qs = omega (arith, c.loop-number-test.true) in
    let q = get_or qs number no_entry in
    let more : take number qs ++ q ∷ [] ≡ take (number + 1) qs = sym (take_more qs number no_entry few) in
    let count : length (take number qs) ≡ number = omega (arith, length-take {A = QuestionEntry} number qs, few) in
    elim c.match-field.branch [
      | in-Some+else-from-end+else-field-eq0+in_ok-add_behind w ↦
          let f = w.in-Some.field in
          let is : entry_field q ≡ Some f = sym c.field.ensures ∙ w.in-Some.is in
          let from = w.first-from.ensures.number in
          let up : c.loop-number.end ≤ first_of f = omega (arith, from, w.if-from-end.false) in
          let long : first_of f < behind_of f = omega (arith, w.if-field-eq0.false) in
          let end : c.match-field.end ≡ behind_of f = w.end-is ∙ w.behind-end.ensures in
          let items : c.match-field.steps.items ≡ c.loop-number.steps.items ++ steps_behind none c.loop-number.end (first_of f) (length (take number qs)) =
          ap (λ (v : Vec Step Global). v.items) w.steps-is ∙ w.in_ok-add_behind.ensures
          ∙ ap (λ (k : ℕ). c.loop-number.steps.items ++ steps_behind none c.loop-number.end k number) from
          ∙ ap (λ (k : ℕ). c.loop-number.steps.items ++ steps_behind none c.loop-number.end (first_of f) k) (sym count) in
          rw (sym more, end, items) (more_before none (take number qs) q f c.loop-number.end c.loop-number.steps.items c.loop-number.invariant (omega (arith, count, few)) is w.first-from.ensures.small up long)
      | in_default w ↦
          let is : entry_field q ≡ None = sym c.field.ensures ∙ w.in_default.is in
          rw (sym more, w.end-is, w.steps-is) (passed_before none (take number qs) q c.loop-number.end c.loop-number.steps.items c.loop-number.invariant (omega (arith, count, few)) is)
    ]
