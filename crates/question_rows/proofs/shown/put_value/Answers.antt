use Rattle.std.proofs.Common.{ap, ◌∙◌}
use Rattle.hii_bytes.proofs.WritingLemmas.{◌⨾◌}
use Rattle.hii_questions.specs.code.Views.{question_view}
use Rattle.condition_text.proofs.WriteLemmas.{written_as}
use Rattle.question_audit.specs.code.Pages.{audited}
use Rattle.question_rows.specs.Shown.{value_part}
use Rattle.question_rows.proofs.FieldLemmas.{value_there}
use Rattle.question_rows.proofs.shown.put_value.Goals as goal

pub returns-clause-told : goal.returns-clause-told
returns-clause-told g c =
    let a = audited c.args.page in
    let q = question_view c.args.question in
    written_as (rw (c.deref.ensures.value, c.in_ok-shown.ensures) at (c.put.ensures ⨾ c.put-2.ensures ⨾ c.put-3.ensures))
    (value_there a q c.field.result _ c.in-Some.is ∙ ap (value_part a q) c.field.ensures.found)
