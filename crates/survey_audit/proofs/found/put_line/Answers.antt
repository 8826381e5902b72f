use Rattle.std.proofs.Common.{ap}
use Rattle.hii_bytes.proofs.WritingLemmas.{◌⨾◌}
use Rattle.condition_text.proofs.WriteLemmas.{written_as}
use Rattle.question_audit.specs.QuestionLines.{question_line}
use Rattle.question_audit.specs.code.Pages.{audited}
use Rattle.survey_audit.proofs.found.put_line.Goals as goal

pub returns-clause-text : goal.returns-clause-text
returns-clause-text g c = c.put_numbers.ensures ⨾ written_as c.put_question.ensures.text (ap (question_line (audited c.args.page)) c.requires.asked)
