-- What an `Over` of the code answers.
use Rattle.std.specs.Prelude.{ℕ}
use Rattle.ifr_expr.specs.Values.{Value}
use Rattle.ifr_nodes.specs.Nodes.{nodes_of}
use Rattle.hii_questions.specs.Answers.{answers}
use Rattle.hii_questions.specs.declared.over.Over.{Over}

abbrev pub answers_over : Over → ℕ → Value
answers_over o = answers (nodes_of o.questions.now.ifr) o.stores.now
