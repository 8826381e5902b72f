-- What the questions of the code stand for.
use Rattle.std.specs.Prelude.{option_map}
use Rattle.ifr_opcodes.specs.Forest.{Node}
use Rattle.ifr_scopes.specs.code.Lists.{statement_node}
use Rattle.hii_questions.specs.Fields.{Asked}
use Rattle.hii_questions.specs.code.Ranges.{range_in}
use Rattle.hii_questions.specs.declared.question.Question.{Question}

-- a question as a node
abbrev pub question_node : Question → Node
question_node question = statement_node question.statement

-- a question as a node with its field
abbrev pub question_view : Question → Asked
question_view question =
    record { node = question_node question; field = option_map range_in question.field }
