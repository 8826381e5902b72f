use Rattle.std.proofs.Common.{ap, sym}
use Rattle.hii_questions.specs.code.Views.{question_view}
use Rattle.audit_json.specs.declared.telling.Telling.{Telling}
use Rattle.condition_text.proofs.WriteLemmas.{written_as}
use Rattle.unlock_audit.specs.Told.{unlock_told}
use Rattle.unlock_audit.specs.code.Answers.{unlock_meant}
use Rattle.unlock_audit.proofs.unlocks.put_as.Goals as goal

pub returns-in-Lines : goal.returns-in-Lines
returns-in-Lines g c =
    written_as c.put_line.ensures (ap (λ (t : Telling). unlock_told t c.args.browser.now.state (question_view c.args.question) (unlock_meant c.args.unlock.now)) (sym c.in-Lines.is))

pub returns-in-Objects : goal.returns-in-Objects
returns-in-Objects g c =
    written_as c.put_object.ensures (ap (λ (t : Telling). unlock_told t c.args.browser.now.state (question_view c.args.question) (unlock_meant c.args.unlock.now)) (sym c.in-Objects.is))
