use Rattle.std.proofs.Common.{[], ap, inl, refl}
use Rattle.hii_bytes.specs.declared.cause.Fault.{Fault}
use Rattle.hii_bytes.proofs.WritingLemmas.{writes_nil}
use Rattle.audit_json.specs.Telling.{asked}
use Rattle.audit_answers.proofs.EndingLemmas.{tells_refusal}
use Rattle.survey_commands.specs.Survey.{SaysSurvey}
use Rattle.survey_commands.proofs.survey.tell_over.Goals as goal

pub returns-in_default-clause-told : goal.returns-in_default-clause-told
returns-in_default-clause-told g c =
    tells_refusal (asked c.args.options.now.json) (SaysSurvey (g.F.StoreFiles.known c.args.files.now) c.args.options.now c.args.dump.now) g.A.Write.contents c.args.answers.now c.args.answers.now c.refuse.new.answers _ c.refuse.result
    (λ other. absurd (other (ap (λ (f : Fault). f.cause) c.out_of_memory.ensures))) (λ memory. ([], writes_nil _, ([], inl refl, refl))) (rw c.of.ensures at c.refuse.ensures)
