use Rattle.std.specs.Prelude.{◌≡◌, filter}
use Rattle.std.specs.List.{flat_map}
use Rattle.hii_bytes.specs.Watching.{pen_of}
use Rattle.hii_bytes.specs.code.NumberSets.{has_number}
use Rattle.hii_bytes.specs.code.Writing.{Stands}
use Rattle.ifr_nodes.specs.Nodes.{is_question, nodes_of}
use Rattle.ifr_nodes.specs.code.Checked.{AreNodesOf}
use Rattle.ifr_scopes.specs.code.Lists.{form_node}
use Rattle.ifr_scopes.specs.code.StatementsLeft.{statements_of_left}
use Rattle.hii_questions.specs.Fields.{asked}
use Rattle.guard_policy.specs.code.Views.{bytes_of}
use Rattle.question_audit.specs.FormLines.{form_lines}
use Rattle.question_audit.specs.QuestionLines.{question_line}
use Rattle.question_audit.specs.code.Pages.{audited}
use Rattle.question_audit.proofs.questions.put_form_lines.Given as goal

-- the form and its questions before the statements that are left were written
abbrev pub invariant-loop-statement : goal.invariant-loop-statement
invariant-loop-statement g l = record {
  can : (goal.iterator-loop-statement g).can_next l.statements;
  ends : (goal.iterator-loop-statement g).is_finite l.statements;
  nodes : AreNodesOf (bytes_of l.fn.page.policy) (statements_of_left l.statements);
  same : l.spare ≡ l.fn.page.stores.now;
  text : Stands (pen_of g.W.Write.contents l.fn.out) (pen_of g.W.Write.contents l.out) (form_lines (audited l.fn.page) (has_number l.fn.tables.ways.reached) (form_node l.fn.form))
      (flat_map (λ n. question_line (audited l.fn.page) (asked (nodes_of (bytes_of l.fn.page.policy)) n)) (filter is_question (statements_of_left l.statements)));
}
