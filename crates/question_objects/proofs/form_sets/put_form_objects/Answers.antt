use Rattle.std.proofs.lemmas.Result.{on_err_weaker, on_ok_weaker}
use Rattle.hii_bytes.proofs.WritingLemmas.{◌⨾◌}
use Rattle.question_audit.proofs.BeginningLemmas.{begun_behind}
use Rattle.question_objects.proofs.form_sets.put_form_objects.Goals as goal

pub returns-clause-told : goal.returns-clause-told
returns-clause-told g c = on_ok_weaker c.put_questions_of.result (λ told. c.put_form.ensures ⨾ told) c.put_questions_of.ensures.told

pub returns-clause-begun : goal.returns-clause-begun
returns-clause-begun g c = on_err_weaker c.put_questions_of.result (λ begun. begun_behind c.put_form.ensures begun) c.put_questions_of.ensures.begun
