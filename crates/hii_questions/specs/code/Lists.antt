-- What the iterators over questions have before them.
use Rattle.std.specs.Prelude.{List, map}
use Rattle.hii_questions.specs.Fields.{Asked}
use Rattle.hii_questions.specs.code.ByField.{entries_at}
use Rattle.hii_questions.specs.code.Entries.{entry_view}
use Rattle.hii_questions.specs.declared.questions_by_place.QuestionsByPlace.{QuestionsByPlace}
use Rattle.hii_questions.specs.declared.questions_with_field.QuestionsWithField.{QuestionsWithField}

abbrev pub questions_left : QuestionsByPlace → List Asked
questions_left it = map (entry_view it.ifr.now) it.entries.now

abbrev pub with_field_left : QuestionsWithField → List Asked
with_field_left it = map (entry_view it.ifr.now) (entries_at it.entries.now it.numbers.now)
