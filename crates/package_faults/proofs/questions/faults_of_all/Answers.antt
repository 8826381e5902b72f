use Rattle.std.proofs.Common.{◌≡◌, List, ◌∷◌, ◌++◌, map, sym, ap, ◌∙◌}
use Rattle.std.specs.Prelude.{filter}
use Rattle.std.specs.List.{flat_map}
use Rattle.hii_bytes.specs.declared.cause.Fault.{Fault}
use Rattle.ifr_opcodes.specs.Fields.{question_store}
use Rattle.ifr_opcodes.specs.Forest.{Mark, Node}
use Rattle.ifr_opcodes.specs.code.Marks.{mark}
use Rattle.ifr_nodes.specs.Nodes.{nodes_of, is_question}
use Rattle.ifr_scopes.specs.code.Lists.{statement_node, all_statements_left}
use Rattle.hii_varstore.specs.Layout.{Shape, size_of}
use Rattle.hii_varstore.specs.StoreNodes.{layout_of}
use Rattle.hii_questions.specs.Faults.{is_known, parts_of}
use Rattle.hii_questions.specs.Fields.{Asked, asked}
use Rattle.hii_questions.specs.code.Entries.{IsEntryOf}
use Rattle.hii_questions.specs.code.Views.{question_view}
use Rattle.hii_questions.proofs.EntryLemmas.{pass_statement}
use Rattle.hii_questions.proofs.QuestionLemmas.{among_statements}
use Rattle.hii_questions.proofs.ReadLemmas.{is_asked, is_not_asked, question_steps}
use Rattle.package_faults.specs.code.Parts.{part_faults}
use Rattle.package_faults.proofs.QuestionLemmas.{question_next}
use Rattle.package_faults.proofs.questions.faults_of_all.Goals as goal
use Rattle.package_faults.proofs.questions.faults_of_all.Goals.{After-of-question}

pub loop-statement-init : goal.loop-statement-init
loop-statement-init c =
    let ns = nodes_of c.args.forms.now in
    let all = ap all_statements_left c.into_iter-statement-iterator.ensures.into_iter_gives ∙ c.statements-statement-items.ensures in
    let left = ap (λ (l : List Node). map (asked ns) (filter is_question l)) all ∙ ap (map (asked ns)) (among_statements ns) in
    let told : List Asked → List Fault = λ qs. part_faults (layout_of ns) (is_known ns) (flat_map parts_of qs) in
    record {
      can = tt;
      ends = tt;
      so_far = ap (λ (l : List Fault). l ++ told (map (asked ns) (filter is_question (all_statements_left c.into_iter-statement-iterator.result)))) c.new-faults.ensures.items ∙ ap told left;
      gathered = tt;
    }

-- what is kept of the statement, which is a question
kept : (c : After-of-question) → IsEntryOf (layout_of (nodes_of c.args.forms.now)) (statement_node c.in-Some.statement) c.of-entry.result
kept c =
    let ns = nodes_of c.args.forms.now in
    let n = statement_node c.in-Some.statement in
    let is = is_asked (is_question n) _ (mark n) c.in-Some-question.ensures in
    let named : c.store.result ≡ question_store n.op = c.store.ensures ∙ ap (λ (m : Mark). question_store m.op) is.1 in
    c.of-entry.ensures (layout_of ns) (c.size-size.ensures ∙ ap (λ (s : Shape). size_of s c.store.result) c.requires ∙ ap (size_of (layout_of ns)) named)

-- the question is that of the node
seen : (c : After-of-question) → question_view c.of-question.result ≡ asked (nodes_of c.args.forms.now) (statement_node c.in-Some.statement)
seen c = c.of-question.ensures ∙ (λ i. record { node = statement_node c.in-Some.statement; field = (kept c).field i })

-- and the first that is left
first : (c : After-of-question) → map (asked (nodes_of c.args.forms.now)) (filter is_question (all_statements_left c.loop-statement.statement-iterator))
    ≡ question_view c.of-question.result ∷ map (asked (nodes_of c.args.forms.now)) (filter is_question (all_statements_left c.next.new.self))
first c =
    let ns = nodes_of c.args.forms.now in
    let rest = map (asked ns) (filter is_question (all_statements_left c.next.new.self)) in
    question_steps (layout_of ns) (statement_node c.in-Some.statement) (all_statements_left c.loop-statement.statement-iterator) (all_statements_left c.next.new.self) (kept c).asks c.in-Some.ensures.steps
    ∙ ap (λ (a : Asked). a ∷ rest) (sym (seen c))

pub loop-statement-preserved-in-Continue-1 : goal.loop-statement-preserved-in-Continue-1
loop-statement-preserved-in-Continue-1 c =
    let ns = nodes_of c.args.forms.now in
    let at = (goal.at.loop-statement-preserved-in-Continue-1 c).After-of-question in
    record {
      can = tt;
      ends = tt;
      so_far = question_next (layout_of ns) (is_known ns) (question_view c.of-question.result) _ _ _ _ _ (first at) c.in_ok-add_of_question.ensures.added c.loop-statement.invariant.so_far;
      gathered = c.in_ok-add_of_question.ensures.gathered;
    }

pub loop-statement-preserved : goal.loop-statement-preserved
loop-statement-preserved c =
    let ns = nodes_of c.args.forms.now in
    let n = statement_node c.in-Some.statement in
    let left = all_statements_left c.loop-statement.statement-iterator in
    let rest = all_statements_left c.next.new.self in
    let passed = pass_statement (layout_of ns) n left rest (is_not_asked (is_question n) (mark n) c.in_default.ensures) c.in-Some.ensures.steps in
    let told : List Asked → List Fault = λ qs. part_faults (layout_of ns) (is_known ns) (flat_map parts_of qs) in
    record {
      can = tt;
      ends = tt;
      so_far = ap (λ (l : List Asked). c.loop-statement.faults.items ++ told l) passed ∙ c.loop-statement.invariant.so_far;
      gathered = c.loop-statement.invariant.gathered;
    }
