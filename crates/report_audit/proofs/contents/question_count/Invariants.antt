use Rattle.std.specs.Prelude.{◌≡◌, ◌+◌, filter, length}
use Rattle.ifr_nodes.specs.Nodes.{is_question}
use Rattle.ifr_scopes.specs.code.Lists.{form_node}
use Rattle.ifr_scopes.specs.code.StatementsLeft.{statements_of_left}
use Rattle.question_audit.specs.FormLines.{form_questions}
use Rattle.report_audit.proofs.contents.question_count.Given as goal

-- the questions before the statements that are left are counted
abbrev pub invariant-loop-statement : goal.invariant-loop-statement
invariant-loop-statement l = record {
  can : goal.iterator-loop-statement.can_next l.statements;
  ends : goal.iterator-loop-statement.is_finite l.statements;
  counted : l.count + length (filter is_question (statements_of_left l.statements)) ≡ length (form_questions (form_node l.fn.form));
}
