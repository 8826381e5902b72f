use Rattle.std.specs.Prelude.{◌≡◌, filter}
use Rattle.std.specs.List.{flat_map}
use Rattle.hii_bytes.specs.Watching.{pen_of}
use Rattle.hii_bytes.specs.code.Writing.{Stands}
use Rattle.ifr_nodes.specs.Nodes.{is_question}
use Rattle.ifr_nodes.specs.code.Checked.{AreNodesOf}
use Rattle.ifr_scopes.specs.code.Lists.{form_node}
use Rattle.ifr_scopes.specs.code.StatementsLeft.{statements_of_left}
use Rattle.guard_policy.specs.code.Views.{bytes_of}
use Rattle.question_audit.specs.FormLines.{form_questions}
use Rattle.question_audit.specs.code.Pages.{audited}
use Rattle.survey_audit.specs.Finding.{is_found}
use Rattle.survey_audit.specs.Opened.{found_told}
use Rattle.survey_audit.specs.code.Headings.{heading_of}
use Rattle.survey_audit.proofs.found.put_found_of.Given as goal

-- the questions that are found before the statements that are left are told
abbrev pub invariant-loop-statement : goal.invariant-loop-statement
invariant-loop-statement g l =
    let told = found_told (heading_of l.fn.heading) (audited l.fn.page) (form_node l.fn.form) in
    let test = is_found (audited l.fn.page) l.fn.letters in
    record {
      can : (goal.iterator-loop-statement g).can_next l.statements;
      ends : (goal.iterator-loop-statement g).is_finite l.statements;
      nodes : AreNodesOf (bytes_of l.fn.page.policy) (statements_of_left l.statements);
      same : l.spare ≡ l.fn.page.stores.now;
      text : Stands (pen_of g.W.Write.contents l.fn.out) (pen_of g.W.Write.contents l.out) (flat_map told (filter test (form_questions (form_node l.fn.form))))
          (flat_map told (filter test (filter is_question (statements_of_left l.statements))));
    }
