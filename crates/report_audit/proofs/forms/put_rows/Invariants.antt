use Rattle.std.specs.Prelude.{◌≡◌, filter}
use Rattle.std.specs.List.{flat_map}
use Rattle.hii_bytes.specs.Watching.{pen_of}
use Rattle.hii_bytes.specs.code.Writing.{Stands}
use Rattle.ifr_nodes.specs.Nodes.{is_question}
use Rattle.ifr_nodes.specs.code.Checked.{AreNodesOf}
use Rattle.ifr_scopes.specs.code.Lists.{form_node}
use Rattle.ifr_scopes.specs.code.StatementsLeft.{statements_of_left}
use Rattle.guard_policy.specs.code.Views.{bytes_of}
use Rattle.question_audit.specs.FormLines.{form_questions}
use Rattle.question_audit.specs.code.Pages.{audited}
use Rattle.report_audit.specs.Forms.{row_line}
use Rattle.report_audit.proofs.forms.put_rows.Given as goal

-- the rows of the questions before the statements that are left were written
abbrev pub invariant-loop-statement : goal.invariant-loop-statement
invariant-loop-statement g l =
    let told = row_line (audited l.fn.page) in
    record {
      can : (goal.iterator-loop-statement g).can_next l.statements;
      ends : (goal.iterator-loop-statement g).is_finite l.statements;
      nodes : AreNodesOf (bytes_of l.fn.page.policy) (statements_of_left l.statements);
      same : l.spare ≡ l.fn.page.stores.now;
      text : Stands (pen_of g.W.Write.contents l.fn.out) (pen_of g.W.Write.contents l.out) (flat_map told (form_questions (form_node l.fn.form))) (flat_map told (filter is_question (statements_of_left l.statements)));
    }
