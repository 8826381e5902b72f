use Rattle.std.proofs.Common.{sym, ap, ◌∙◌}
use Rattle.ifr_opcodes.specs.Fields.{question_id}
use Rattle.ifr_opcodes.specs.Forest.{as_ancestor}
use Rattle.ifr_nodes.specs.code.Views.{node_of}
use Rattle.ifr_nodes.proofs.ScopeLemmas.{this-question, this-other}
use Rattle.ifr_nodes.proofs.guards.this_within.Goals as goal

pub returns-then-is_question : goal.returns-then-is_question
returns-then-is_question c = λ path within.
    this-question path (as_ancestor (node_of c.args.node)) (sym c.is_question.ensures ∙ c.if-is_question.true) ∙ ap question_id (sym c.question.ensures.bytes) ∙ sym c.id.ensures

pub returns-else-is_question : goal.returns-else-is_question
returns-else-is_question c = λ path within.
    this-other path (as_ancestor (node_of c.args.node)) (sym c.is_question.ensures ∙ c.if-is_question.false) ∙ within
