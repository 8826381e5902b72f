use Rattle.std.proofs.Common.{◌≡◌, ℕ, List, length, ap, subst, inl, inr, arith}
use Rattle.std.proofs.lemmas.List.{length-map}
use Rattle.std.proofs.lemmas.Result.{err_from_is_err_and}
use Rattle.hii_bytes.specs.code.IdTables.{number_with}
use Rattle.hii_bytes.specs.declared.id_table.IdEntry.{IdEntry}
use Rattle.hii_questions.specs.Fields.{Asked}
use Rattle.hii_questions.specs.code.ByField.{AreByField}
use Rattle.hii_questions.specs.code.Entries.{entry_view}
use Rattle.hii_questions.specs.code.Steps.{AreSteps}
use Rattle.hii_questions.specs.declared.entry.QuestionEntry.{QuestionEntry}
use Rattle.hii_questions.proofs.EntryLemmas.{few_questions}
use Rattle.hii_questions.proofs.PlaceLemmas.{questions_rise}
use Rattle.hii_questions.proofs.RefusalLemmas.{refused_among, sound_among}
use Rattle.hii_questions.proofs.questions.Questions.read.Goals as goal

pub returns-in_err-by_place-clause-refused : goal.returns-in_err-by_place-clause-refused
returns-in_err-by_place-clause-refused c =
    let p = err_from_is_err_and c.from_residual.result c.from_residual.ensures.1 in
    rw (p.1, p.2)
    (elim c.in_err-by_place.ensures.refused [
      | inl memory ↦ inl memory
      | inr told ↦ inr (refused_among c.args.forms.now c.in_err-by_place.field-0.0 c.bytes-ifr.ensures.accepted told)
    ])

pub returns-in_err-by_place-clause-accepted : goal.returns-in_err-by_place-clause-accepted
returns-in_err-by_place-clause-accepted c = λ none.
    let fault = c.in_err-by_place.field-0.0 in
    let p = err_from_is_err_and c.from_residual.result c.from_residual.ensures.1 in
    rw (p.1, p.2)
    (elim c.in_err-by_place.ensures.refused [
      | inl memory ↦ memory
      | inr told ↦ absurd (none fault.cause fault.place (refused_among c.args.forms.now fault c.bytes-ifr.ensures.accepted told).told)
    ])

pub questions_by_field-requires : goal.questions_by_field-requires
questions_by_field-requires c =
    let es = c.in_ok-by_place.by_place.items in
    omega (
      arith,
      ap (λ (l : List QuestionEntry). length l) c.deref.ensures.value,
      length-map es (entry_view c.args.forms.now),
      ap (λ (l : List Asked). length l) c.in_ok-by_place.ensures.placed,
      few_questions c.args.forms.now c.bytes-ifr.ensures.accepted,
    )

pub invariant_of-result : goal.invariant_of-result
invariant_of-result c =
    let read = c.in_ok-by_place.ensures in
    rw c.bytes-ifr.ensures.bytes (
      record {
        accepted = c.bytes-ifr.ensures.accepted;
        placed = read.placed;
        kept = read.kept;
        rise = questions_rise c.args.forms.now c.in_ok-by_place.by_place.items c.bytes-ifr.ensures.accepted read.kept read.placed;
        found = subst (λ (l : List IdEntry). (id : ℕ) → number_with c.in_ok-by_id.by_id id ≡ number_with l id) read.numbered c.in_ok-by_id.ensures;
        ordered = subst (λ (l : List QuestionEntry). AreByField l c.in_ok-by_field.by_field.items) c.deref.ensures.value c.in_ok-by_field.ensures;
        secret = read.secret;
        told = subst (λ (l : List QuestionEntry). AreSteps l c.in_ok-password_steps.password_steps.items) c.deref-2.ensures.value c.in_ok-password_steps.ensures;
      },
      c.in_ok-options.ensures,
    )

pub returns-clause-sound : goal.returns-clause-sound
returns-clause-sound c = sound_among c.args.forms.now c.in_ok-by_place.ensures.sound
