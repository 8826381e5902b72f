use Rattle.std.proofs.Common.{◌≡◌, ◌∙◌, true, false, List, ℕ, Some, None, [], ap, subst, rules, sym, if◌then◌else◌}
use Rattle.std.specs.Prelude.{filter}
use Rattle.std.specs.List.{flat_map}
use Rattle.hii_bytes.specs.Watching.{pen_of}
use Rattle.hii_bytes.specs.code.Writing.{Stands}
use Rattle.hii_bytes.proofs.WritingLemmas.{past_piece, writes_nil}
use Rattle.ifr_opcodes.specs.Forest.{Node}
use Rattle.ifr_nodes.specs.Nodes.{is_question, nodes_of}
use Rattle.ifr_nodes.specs.code.Checked.{AreNodesOf, IsNodeOf}
use Rattle.ifr_scopes.specs.code.Lists.{form_node, statement_node}
use Rattle.ifr_scopes.specs.code.StatementsLeft.{statements_of_left}
use Rattle.ifr_index.proofs.PathLemmas.{statements_of}
use Rattle.hii_varstore.specs.Stores.{shape_of}
use Rattle.hii_questions.specs.Fields.{Asked, asked}
use Rattle.hii_questions.specs.code.LyingIn.{LiesIn}
use Rattle.hii_questions.specs.code.Views.{question_node, question_view}
use Rattle.guard_policy.specs.code.Views.{bytes_of}
use Rattle.guard_policy.specs.declared.policy.Policy.{Policy}
use Rattle.guard_policy.proofs.OptionLemmas.{first_of, rest_of}
use Rattle.condition_text.proofs.WriteLemmas.{written_as}
use Rattle.question_audit.specs.FormLines.{form_questions}
use Rattle.question_audit.specs.code.Pages.{audited}
use Rattle.question_audit.proofs.QuestionsLemmas.{no_question_of, question_lies, said_of}
use Rattle.question_audit.specs.code.Beginnings.{Begins}
use Rattle.question_audit.proofs.BeginningLemmas.{at_error, piece_begun}
use Rattle.survey_audit.specs.Finding.{is_found}
use Rattle.survey_audit.specs.Opened.{found_told}
use Rattle.survey_audit.specs.code.Headings.{heading_of}
use Rattle.survey_audit.proofs.FoundLemmas.{with_found, without_asked, without_found}
use Rattle.survey_audit.proofs.found.put_found_of.Goals as goal
use Rattle.survey_audit.proofs.found.put_found_of.Goals.{In-Some-question}

pub loop-statement-init : goal.loop-statement-init
loop-statement-init g c =
    let page = c.args.page in
    let bytes = bytes_of page.policy in
    let told : Node → List ℕ = found_told (heading_of c.args.heading) (audited page) (form_node c.args.form) in
    let test = is_found (audited page) c.args.letters.now in
    record {
      can = search rules;
      ends = search rules;
      nodes = subst (AreNodesOf bytes) (sym c.statements_of-statements.ensures) (statements_of bytes (form_node c.args.form) page.policy.accepted.checked.spelled c.requires.node);
      same = c.requires.same;
      text = record {
        front = [];
        parts = ap (λ (ns : List Node). flat_map told (filter test (filter is_question ns))) (sym c.statements_of-statements.ensures);
        written = writes_nil _;
      };
    }

pub question-requires : goal.question-requires
question-requires g c =
    let n = statement_node c.in-Some.statement in
    subst (λ (p : Policy). IsNodeOf (bytes_of p) n) (sym c.policy-in-Some.ensures)
    (first_of (bytes_of c.args.page.policy) (statements_of_left c.loop-statement.statements) n (statements_of_left c.next.new.self) c.in-Some.ensures.steps c.loop-statement.invariant.nodes)

-- the statement is a node, and the question is asked of it
module _ (g : _) (c : In-Some-question g) where
  abbrev n : Node
  n = statement_node c.in-Some.statement

  said : (is_question n ≡ true) × (question_view c.in-Some-question.question ≡ asked (nodes_of (bytes_of c.args.page.policy)) n)
  said = said_of n (question_view c.in-Some-question.question) c.policy-in-Some.result c.args.page.policy c.policy-in-Some.ensures c.in-Some-question.ensures

  same_node : question_node c.in-Some-question.question ≡ n
  same_node = ap (λ (q : Asked). q.node) said.1

  is_node : IsNodeOf (bytes_of c.args.page.policy) (question_node c.in-Some-question.question)
  is_node =
      subst (λ (m : Node). IsNodeOf (bytes_of c.args.page.policy) m) (sym same_node)
      (first_of (bytes_of c.args.page.policy) (statements_of_left c.loop-statement.statements) n (statements_of_left c.next.new.self) c.in-Some.ensures.steps c.loop-statement.invariant.nodes)

pub is_found-requires : goal.is_found-requires
is_found-requires g c = is_node g (goal.at.is_found-requires g c).In-Some-question

pub put_told-requires-clause-node : goal.put_told-requires-clause-node
put_told-requires-clause-node g c = is_node g (goal.at.put_told-requires-clause-node g c).In-Some-question

pub put_told-requires-clause-lies : goal.put_told-requires-clause-lies
put_told-requires-clause-lies g c =
    let page = c.args.page in
    let at = (goal.at.put_told-requires-clause-lies g c).In-Some-question in
    let node = first_of (bytes_of page.policy) (statements_of_left c.loop-statement.statements) (n g at) (statements_of_left c.next.new.self) c.in-Some.ensures.steps c.loop-statement.invariant.nodes in
    subst (λ (q : Asked). LiesIn (shape_of page.stores.now) q) (sym (said g at).1) (question_lies (shape_of page.stores.now) (bytes_of page.policy) (n g at) c.requires.lie node (said g at).0)

pub loop-statement-preserved : goal.loop-statement-preserved
loop-statement-preserved g c =
    let page = c.args.page in
    let left = statements_of_left c.loop-statement.statements in
    let after = statements_of_left c.next.new.self in
    let m = statement_node c.in-Some.statement in
    let e = c.in-Some.ensures.steps in
    let told : Node → List ℕ = found_told (heading_of c.args.heading) (audited page) (form_node c.args.form) in
    let test = is_found (audited page) c.args.letters.now in
    let is = no_question_of (is_question m) (asked (nodes_of (bytes_of c.policy-in-Some.result)) m) c.in_default-question.ensures in
    record {
      can = search rules;
      ends = search rules;
      nodes = rest_of (bytes_of page.policy) left m after e c.loop-statement.invariant.nodes;
      same = c.loop-statement.invariant.same;
      text = subst (Stands (pen_of g.W.Write.contents c.args.out.now) (pen_of g.W.Write.contents c.loop-statement.out) (flat_map told (filter test (form_questions (form_node c.args.form)))))
          (without_asked told test m left after e is) c.loop-statement.invariant.text;
    }

pub loop-statement-preserved-in-Continue-branch-2 : goal.loop-statement-preserved-in-Continue-branch-2
loop-statement-preserved-in-Continue-branch-2 g c =
    let page = c.args.page in
    let at = (goal.at.loop-statement-preserved-in-Continue-branch-2 g c).In-Some-question in
    let left = statements_of_left c.loop-statement.statements in
    let after = statements_of_left c.next.new.self in
    let m = n g at in
    let e = c.in-Some.ensures.steps in
    let h = heading_of c.args.heading in
    let told : Node → List ℕ = found_told h (audited page) (form_node c.args.form) in
    let test = is_found (audited page) c.args.letters.now in
    let found : test m ≡ true = ap test (sym (same_node g at)) ∙ sym c.in_ok-is_found.ensures ∙ c.if-branch.true in
    record {
      can = search rules;
      ends = search rules;
      nodes = rest_of (bytes_of page.policy) left m after e c.loop-statement.invariant.nodes;
      same = c.in_ok-put_told.ensures.same;
      text = past_piece _ _ _ _ _ (told m) (flat_map told (filter test (filter is_question after))) (with_found told test m left after e (said g at).0 found) c.loop-statement.invariant.text
          (written_as c.in_ok-put_told.ensures.told (ap told (same_node g at)));
    }

pub loop-statement-preserved-else-branch : goal.loop-statement-preserved-else-branch
loop-statement-preserved-else-branch g c =
    let page = c.args.page in
    let at = (goal.at.loop-statement-preserved-else-branch g c).In-Some-question in
    let left = statements_of_left c.loop-statement.statements in
    let after = statements_of_left c.next.new.self in
    let m = n g at in
    let e = c.in-Some.ensures.steps in
    let told : Node → List ℕ = found_told (heading_of c.args.heading) (audited page) (form_node c.args.form) in
    let test = is_found (audited page) c.args.letters.now in
    let other : test m ≡ false = ap test (sym (same_node g at)) ∙ sym c.in_ok-is_found.ensures ∙ c.if-branch.false in
    record {
      can = search rules;
      ends = search rules;
      nodes = rest_of (bytes_of page.policy) left m after e c.loop-statement.invariant.nodes;
      same = c.loop-statement.invariant.same;
      text = subst (Stands (pen_of g.W.Write.contents c.args.out.now) (pen_of g.W.Write.contents c.loop-statement.out) (flat_map told (filter test (form_questions (form_node c.args.form)))))
          (without_found told test m left after e (said g at).0 other) c.loop-statement.invariant.text;
    }

pub returns-in_err-put_told-clause-begun : goal.returns-in_err-put_told-clause-begun
returns-in_err-put_told-clause-begun g c =
    let page = c.args.page in
    let at = (goal.at.returns-in_err-put_told-clause-begun g c).In-Some-question in
    let left = statements_of_left c.loop-statement.statements in
    let after = statements_of_left c.next.new.self in
    let m = n g at in
    let e = c.in-Some.ensures.steps in
    let told : Node → List ℕ = found_told (heading_of c.args.heading) (audited page) (form_node c.args.form) in
    let test = is_found (audited page) c.args.letters.now in
    let found : test m ≡ true = ap test (sym (same_node g at)) ∙ sym c.in_ok-is_found.ensures ∙ c.if-branch.true in
    at_error c.from_residual-in_err-put_told.result (piece_begun (flat_map told (filter test (filter is_question after))) (with_found told test m left after e (said g at).0 found)
    c.loop-statement.invariant.text (subst (Begins _ _) (ap told (same_node g at)) c.in_err-put_told.ensures.begun))
