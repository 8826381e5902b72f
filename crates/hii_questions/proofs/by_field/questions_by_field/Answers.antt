use Rattle.std.proofs.Common.{rules}
use Rattle.std.proofs.lemmas.Fn.{always_returns_same}
use Rattle.hii_questions.specs.code.ByField.{numbered_field}
use Rattle.hii_questions.specs.declared.entry.QuestionEntry.{QuestionEntry}
use Rattle.hii_questions.proofs.FieldLemmas.{numbers_in_order, sorted_numbers}
use Rattle.hii_questions.proofs.by_field.questions_by_field.Goals as goal
use Rattle.hii_questions.proofs.by_field.questions_by_field.Goals.{then-not-is_sorted_by_key+in_ok-sort_by_key, else-not-is_sorted_by_key}

pub returns : goal.returns
returns c =
    let es = c.args.questions.now in
    elim c.if-not-is_sorted_by_key.branch [
      | then-not-is_sorted_by_key+in_ok-sort_by_key w ↦
          let told = w.in_ok-sort_by_key.ensures in
          rw w.by_field-is (sorted_numbers es c.in_ok-by_field.by_field.items w.sort_by_key.new.self.items c.in_ok-by_field.ensures told.permutation
          (told.sorted (numbered_field es) (always_returns_same _ _ _ (λ a r g called. search rules)))
          (told.stable (numbered_field es) (always_returns_same _ _ _ (λ a r g called. search rules))))
      | else-not-is_sorted_by_key w ↦
          let sorted = c.is_sorted_by_key.ensures.cases (λ (e : QuestionEntry). e.field) (always_returns_same _ _ _ (λ a r g called. search rules)) in
          rw w.by_field-is (numbers_in_order es c.in_ok-by_field.by_field.items c.in_ok-by_field.ensures (rw w.if-not-is_sorted_by_key.false at sorted))
    ]
