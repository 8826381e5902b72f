use Rattle.std.proofs.Common.{true, codes, List, ℕ, [], ap, subst, rules, sym, ◌∙◌}
use Rattle.std.specs.Prelude.{filter}
use Rattle.std.specs.List.{flat_map}
use Rattle.hii_bytes.specs.Watching.{pen_of}
use Rattle.hii_bytes.specs.code.Writing.{Stands}
use Rattle.hii_bytes.proofs.WritingLemmas.{◌⨾◌, past_piece, writes_nil}
use Rattle.ifr_opcodes.specs.Forest.{Node}
use Rattle.ifr_nodes.specs.Nodes.{is_question, nodes_of}
use Rattle.ifr_nodes.specs.code.Checked.{AreNodesOf, IsNodeOf}
use Rattle.ifr_scopes.specs.code.Lists.{form_node, statement_node}
use Rattle.ifr_scopes.specs.code.StatementsLeft.{statements_of_left}
use Rattle.ifr_index.proofs.PathLemmas.{statements_of}
use Rattle.hii_varstore.specs.Stores.{shape_of}
use Rattle.hii_questions.specs.Fields.{Asked, asked}
use Rattle.hii_questions.specs.code.LyingIn.{LiesIn}
use Rattle.hii_questions.specs.code.Views.{question_view}
use Rattle.guard_policy.specs.code.Views.{bytes_of}
use Rattle.guard_policy.specs.declared.policy.Policy.{Policy}
use Rattle.guard_policy.proofs.OptionLemmas.{first_of, rest_of}
use Rattle.condition_text.proofs.WriteLemmas.{written_as}
use Rattle.question_audit.specs.FormLines.{form_questions}
use Rattle.question_audit.specs.code.Pages.{audited}
use Rattle.question_audit.proofs.QuestionsLemmas.{no_question_of, question_lies, said_of, with_question, without_question}
use Rattle.question_audit.specs.code.Beginnings.{Begins}
use Rattle.question_audit.proofs.BeginningLemmas.{at_error, begun_before, piece_begun}
use Rattle.question_rows.specs.Rows.{row}
use Rattle.report_audit.specs.Forms.{row_line}
use Rattle.report_audit.proofs.HeldLemmas.{stands_broken}
use Rattle.report_audit.proofs.forms.put_rows.Goals as goal

pub loop-statement-init : goal.loop-statement-init
loop-statement-init g c =
    let page = c.args.page in
    let bytes = bytes_of page.policy in
    let told : Node → List ℕ = row_line (audited page) in
    record {
      can = search rules;
      ends = search rules;
      nodes = subst (AreNodesOf bytes) (sym c.statements_of-statements.ensures) (statements_of bytes (form_node c.args.form) page.policy.accepted.checked.spelled c.requires.node);
      same = c.requires.same;
      text = record {
        front = [];
        parts = ap (λ (ns : List Node). flat_map told (filter is_question ns)) (sym c.statements_of-statements.ensures);
        written = writes_nil _;
      };
    }

pub question-requires : goal.question-requires
question-requires g c =
    let n = statement_node c.in-Some.statement in
    subst (λ (p : Policy). IsNodeOf (bytes_of p) n) (sym c.policy-in-Some.ensures)
    (first_of (bytes_of c.args.page.policy) (statements_of_left c.loop-statement.statements) n (statements_of_left c.next.new.self) c.in-Some.ensures.steps c.loop-statement.invariant.nodes)

pub put_row-requires-clause-node : goal.put_row-requires-clause-node
put_row-requires-clause-node g c =
    let page = c.args.page in
    let n = statement_node c.in-Some.statement in
    let said = said_of n (question_view c.in-Some-question.question) c.policy-in-Some.result page.policy c.policy-in-Some.ensures c.in-Some-question.ensures in
    subst (λ (m : Node). IsNodeOf (bytes_of page.policy) m) (sym (ap (λ (q : Asked). q.node) said.1))
    (first_of (bytes_of page.policy) (statements_of_left c.loop-statement.statements) n (statements_of_left c.next.new.self) c.in-Some.ensures.steps c.loop-statement.invariant.nodes)

pub put_row-requires-clause-lies : goal.put_row-requires-clause-lies
put_row-requires-clause-lies g c =
    let page = c.args.page in
    let n = statement_node c.in-Some.statement in
    let said = said_of n (question_view c.in-Some-question.question) c.policy-in-Some.result page.policy c.policy-in-Some.ensures c.in-Some-question.ensures in
    let node = first_of (bytes_of page.policy) (statements_of_left c.loop-statement.statements) n (statements_of_left c.next.new.self) c.in-Some.ensures.steps c.loop-statement.invariant.nodes in
    subst (λ (q : Asked). LiesIn (shape_of page.stores.now) q) (sym said.1) (question_lies (shape_of page.stores.now) (bytes_of page.policy) n c.requires.lie node said.0)

pub loop-statement-preserved-in-Some-question : goal.loop-statement-preserved-in-Some-question
loop-statement-preserved-in-Some-question g c =
    let page = c.args.page in
    let bytes = bytes_of page.policy in
    let left = statements_of_left c.loop-statement.statements in
    let after = statements_of_left c.next.new.self in
    let n = statement_node c.in-Some.statement in
    let e = c.in-Some.ensures.steps in
    let told : Node → List ℕ = row_line (audited page) in
    let said = said_of n (question_view c.in-Some-question.question) c.policy-in-Some.result page.policy c.policy-in-Some.ensures c.in-Some-question.ensures in
    record {
      can = search rules;
      ends = search rules;
      nodes = rest_of bytes left n after e c.loop-statement.invariant.nodes;
      same = c.in_ok-put_row.ensures.same;
      text = past_piece _ _ _ _ _ (told n) (flat_map told (filter is_question after)) (with_question told n left after e said.0) c.loop-statement.invariant.text
          (written_as c.in_ok-put_row.ensures.told (ap (row (audited page)) said.1) ⨾ c.put.ensures);
    }

pub loop-statement-preserved : goal.loop-statement-preserved
loop-statement-preserved g c =
    let page = c.args.page in
    let bytes = bytes_of page.policy in
    let left = statements_of_left c.loop-statement.statements in
    let after = statements_of_left c.next.new.self in
    let n = statement_node c.in-Some.statement in
    let e = c.in-Some.ensures.steps in
    let told : Node → List ℕ = row_line (audited page) in
    let is = no_question_of (is_question n) (asked (nodes_of (bytes_of c.policy-in-Some.result)) n) c.in_default-question.ensures in
    record {
      can = search rules;
      ends = search rules;
      nodes = rest_of bytes left n after e c.loop-statement.invariant.nodes;
      same = c.loop-statement.invariant.same;
      text = subst (Stands (pen_of g.W.Write.contents c.args.out.now) (pen_of g.W.Write.contents c.loop-statement.out) (flat_map told (form_questions (form_node c.args.form))))
          (without_question told n left after e is) c.loop-statement.invariant.text;
    }

pub returns-in_err-put_row-clause-begun : goal.returns-in_err-put_row-clause-begun
returns-in_err-put_row-clause-begun g c =
    let page = c.args.page in
    let left = statements_of_left c.loop-statement.statements in
    let after = statements_of_left c.next.new.self in
    let n = statement_node c.in-Some.statement in
    let e = c.in-Some.ensures.steps in
    let told : Node → List ℕ = row_line (audited page) in
    let said = said_of n (question_view c.in-Some-question.question) c.policy-in-Some.result page.policy c.policy-in-Some.ensures c.in-Some-question.ensures in
    at_error c.from_residual.result
    (piece_begun (flat_map told (filter is_question after)) (with_question told n left after e said.0) c.loop-statement.invariant.text
    (begun_before (codes "\n") (subst (Begins _ _) (ap (row (audited page)) said.1) c.in_err-put_row.ensures.begun)))

pub returns-then-failed-clause-told : goal.returns-then-failed-clause-told
returns-then-failed-clause-told g c = stands_broken c.loop-statement.invariant.text (sym c.failed.ensures ∙ c.if-failed.true)
