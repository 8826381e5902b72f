use Rattle.question_rows.proofs.PlainLemmas.{line_plain, text_plain}
use Rattle.question_rows.proofs.laws.texts_begin_and_end_no_tags.Goals as goal

pub returns-clause-texts : goal.returns-clause-texts
returns-clause-texts c = text_plain

pub returns-clause-lines : goal.returns-clause-lines
returns-clause-lines c = line_plain
