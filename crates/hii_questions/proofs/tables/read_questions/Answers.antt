use Rattle.std.proofs.Common.{◌≡◌, ◌∷◌, ◌++◌, List, length, ap, subst, sym, ◌∙◌, map, refl, arith, inl, inr}
use Rattle.std.specs.Prelude.{Contains, filter}
use Rattle.std.specs.List.{flat_map}
use Rattle.std.proofs.lemmas.Result.{err_from_is_err_and}
use Rattle.ifr_opcodes.specs.Fields.{question_id, question_store}
use Rattle.ifr_opcodes.specs.Forest.{Mark, Node}
use Rattle.ifr_opcodes.specs.code.Marks.{mark}
use Rattle.ifr_nodes.specs.code.Checked.{node_in}
use Rattle.ifr_scopes.specs.code.Lists.{statement_node, all_statements_left}
use Rattle.ifr_nodes.specs.Nodes.{nodes_of, is_question, is_statement}
use Rattle.ifr_nodes.proofs.ViewLemmas.{further, node_in_place}
use Rattle.hii_varstore.specs.Layout.{Shape, size_of}
use Rattle.hii_varstore.specs.StoreNodes.{layout_of}
use Rattle.hii_values.specs.Types.{is_password}
use Rattle.hii_questions.specs.Fields.{Asked, asked, questions}
use Rattle.hii_questions.specs.Faults.{is_known, parts_of}
use Rattle.hii_questions.specs.code.Entries.{IsEntryOf, IsQuestionEntry, entry_view}
use Rattle.hii_questions.specs.code.FaultTells.{first_part_fault}
use Rattle.hii_questions.specs.code.Ids.{ids_from}
use Rattle.hii_questions.specs.code.Views.{question_view}
use Rattle.hii_questions.specs.declared.entry.QuestionEntry.{QuestionEntry}
use Rattle.hii_questions.proofs.EntryLemmas.{all_more, entry_kept, pass_statement, push_question}
use Rattle.hii_questions.proofs.FaultLemmas.{first_here, first_later}
use Rattle.hii_questions.proofs.FieldLemmas.{passing}
use Rattle.hii_questions.proofs.QuestionLemmas.{among_statements}
use Rattle.hii_questions.proofs.ReadLemmas.{few_so_far, is_asked, is_not_asked, numbers_more, question_steps, secret_more, secret_same}
use Rattle.hii_questions.proofs.tables.read_questions.Goals as goal
use Rattle.hii_questions.proofs.tables.read_questions.Goals.{After-of-question}

pub loop-statement-init : goal.loop-statement-init
loop-statement-init c =
    let ifr = c.args.forms.now in
    let ns = nodes_of ifr in
    let it = c.into_iter-statement-iterator.result in
    let all : all_statements_left it ≡ filter is_statement ns = ap all_statements_left c.into_iter-statement-iterator.ensures.into_iter_gives ∙ c.statements-statement-items.ensures in
    let left : map (asked ns) (filter is_question (all_statements_left it)) ≡ questions ns =
    ap (λ (l : List Node). map (asked ns) (filter is_question l)) all ∙ ap (map (asked ns)) (among_statements ns) in
    record {
      can = tt;
      ends = tt;
      within = λ n there. (passing is_statement ns n (subst (λ (l : List Node). Contains l n) all there)).0;
      kept = rw c.in_ok-by_place.ensures.items (λ k d lt. absurd (omega (arith, lt)));
      found = ap (λ (es : List QuestionEntry). map (entry_view ifr) es ++ map (asked ns) (filter is_question (all_statements_left it))) c.in_ok-by_place.ensures.items ∙ left;
      numbered = c.in_ok-numbers.ensures.items ∙ ap (λ (es : List QuestionEntry). ids_from 0 (map (entry_view ifr) es)) (sym c.in_ok-by_place.ensures.items);
      secret = c.new-passwords.ensures.items ∙ ap (λ (es : List QuestionEntry). filter (λ e. is_password (node_in ifr e.place)) es) (sym c.in_ok-by_place.ensures.items);
      same = ap (λ (l : List Asked). first_part_fault (layout_of ns) (is_known ns) (flat_map parts_of l)) left;
      gathered = tt;
    }

-- what is kept of the statement, which is a question
kept : (c : After-of-question) → IsEntryOf (layout_of (nodes_of c.args.forms.now)) (statement_node c.in-Some.statement) c.of-entry.result
kept c =
    let ns = nodes_of c.args.forms.now in
    let n = statement_node c.in-Some.statement in
    let is = is_asked (is_question n) _ (mark n) c.in-Some-question.ensures in
    let named : c.store.result ≡ question_store n.op = c.store.ensures ∙ ap (λ (m : Mark). question_store m.op) is.1 in
    c.of-entry.ensures (layout_of ns) (c.size-size.ensures ∙ ap (λ (s : Shape). size_of s c.store.result) c.requires.laid ∙ ap (size_of (layout_of ns)) named)

-- the question is the first that is left
first : (c : After-of-question) → map (asked (nodes_of c.args.forms.now)) (filter is_question (all_statements_left c.loop-statement.statement-iterator))
    ≡ question_view c.of-question.result ∷ map (asked (nodes_of c.args.forms.now)) (filter is_question (all_statements_left c.next.new.self))
first c =
    let ns = nodes_of c.args.forms.now in
    let n = statement_node c.in-Some.statement in
    let of = kept c in
    let rest = map (asked ns) (filter is_question (all_statements_left c.next.new.self)) in
    let view : question_view c.of-question.result ≡ asked ns n = c.of-question.ensures ∙ (λ i. record { node = n; field = of.field i }) in
    question_steps (layout_of ns) n (all_statements_left c.loop-statement.statement-iterator) (all_statements_left c.next.new.self) of.asks c.in-Some.ensures.steps ∙ ap (λ (a : Asked). a ∷ rest) (sym view)

-- the statement is a node of the package
within : (c : After-of-question) → Contains (nodes_of c.args.forms.now) (statement_node c.in-Some.statement)
within c =
    let left = all_statements_left c.loop-statement.statement-iterator in
    c.loop-statement.invariant.within (statement_node c.in-Some.statement) (subst (λ (l : List Node). Contains l (statement_node c.in-Some.statement)) (sym c.in-Some.ensures.steps) (0, omega arith, refl))

pub check_question-requires-clause-kept : goal.check_question-requires-clause-kept
check_question-requires-clause-kept c =
    let at = (goal.at.check_question-requires-clause-kept c).After-of-question in
    let ifr = c.args.forms.now in
    entry_kept ifr (layout_of (nodes_of ifr)) (statement_node c.in-Some.statement) c.of-entry.result c.requires.accepted.checked.spelled (within at) (kept at)

pub check_question-requires-clause-same : goal.check_question-requires-clause-same
check_question-requires-clause-same c =
    let at = (goal.at.check_question-requires-clause-same c).After-of-question in
    let ifr = c.args.forms.now in
    ap (node_in ifr) (kept at).place ∙ node_in_place ifr (statement_node c.in-Some.statement) c.requires.accepted.checked.spelled (within at) ∙ sym (ap (λ (a : Asked). a.node) c.of-question.ensures)

pub returns-in_err-check_question-clause-refused : goal.returns-in_err-check_question-clause-refused
returns-in_err-check_question-clause-refused c =
    let ns = nodes_of c.args.forms.now in
    let left = map (asked ns) (filter is_question (all_statements_left c.loop-statement.statement-iterator)) in
    let rest = map (asked ns) (filter is_question (all_statements_left c.next.new.self)) in
    let p = err_from_is_err_and c.from_residual-in_err-check_question.result c.from_residual-in_err-check_question.ensures.1 in
    rw (p.1, p.2)
    (elim c.in_err-check_question.ensures.told [
      | inl memory ↦ inl memory
      | inr told ↦ inr (sym c.loop-statement.invariant.same
          ∙ first_here (layout_of ns) (is_known ns) (question_view c.of-question.result) left rest c.in_err-check_question.field-0.0 (first (goal.at.returns-in_err-check_question-clause-refused c).After-of-question) told)
    ])

pub overflow_cast-len : goal.overflow_cast-len
overflow_cast-len c =
    let few = few_so_far c.args.forms.now c.loop-statement.by_place.items _ c.requires.accepted c.loop-statement.invariant.found in
    omega (arith, c.len.ensures, few)

pub loop-statement-preserved-in-Continue-branch-6 : goal.loop-statement-preserved-in-Continue-branch-6
loop-statement-preserved-in-Continue-branch-6 c =
    let ifr = c.args.forms.now in
    let ns = nodes_of ifr in
    let s = c.requires.accepted.checked.spelled in
    let n = statement_node c.in-Some.statement in
    let left = all_statements_left c.loop-statement.statement-iterator in
    let rest = all_statements_left c.next.new.self in
    let steps : left ≡ n ∷ rest = c.in-Some.ensures.steps in
    let here : Contains left n = subst (λ (l : List Node). Contains l n) (sym steps) (0, omega arith, refl) in
    let within = c.loop-statement.invariant.within n here in
    let e = c.of-entry.result in
    let at = goal.at.loop-statement-preserved-in-Continue-branch-6 c in
    let of = kept at.After-of-question in
    let es = c.loop-statement.by_place.items in
    let node : node_in ifr e.place ≡ n = ap (node_in ifr) of.place ∙ node_in_place ifr n s within in
    let count : c.len.result ≡ length es = omega (arith, c.len.ensures) in
    let id : c.id.result ≡ question_id n.op = c.id.ensures ∙ ap (λ (a : Asked). question_id a.node.op) c.of-question.ensures in
    let password : c.is_password.result ≡ is_password n = c.is_password.ensures ∙ ap (λ (a : Asked). is_password a.node) c.of-question.ensures in
    record {
      can = tt;
      ends = tt;
      within = λ m there. c.loop-statement.invariant.within m (subst (λ (l : List Node). Contains l m) (sym steps) (further n rest m there));
      kept = rw c.in_ok-push-2.ensures.items (all_more (λ x. IsQuestionEntry ifr x) es e c.loop-statement.invariant.kept (entry_kept ifr (layout_of ns) n e s within of));
      found = ap (λ (l : List QuestionEntry). map (entry_view ifr) l ++ map (asked ns) (filter is_question rest)) c.in_ok-push-2.ensures.items
          ∙ push_question ifr (layout_of ns) es e n left rest (questions ns) s within of steps c.loop-statement.invariant.found;
      numbered = c.in_ok-push.ensures.items ∙ numbers_more ifr es e n c.loop-statement.numbers.items c.id.result c.len.result c.loop-statement.invariant.numbered node id count
          ∙ ap (λ (l : List QuestionEntry). ids_from 0 (map (entry_view ifr) l)) (sym c.in_ok-push-2.ensures.items);
      secret = c.in_ok-push-3.ensures.items ∙ secret_more ifr es e n c.loop-statement.passwords.items c.loop-statement.invariant.secret node (sym password ∙ c.if-is_password.true)
          ∙ ap (λ (l : List QuestionEntry). filter (λ x. is_password (node_in ifr x.place)) l) (sym c.in_ok-push-2.ensures.items);
      same = first_later (layout_of ns) (is_known ns) (question_view c.of-question.result) (map (asked ns) (filter is_question left)) (map (asked ns) (filter is_question rest))
          (first at.After-of-question) c.in_ok-check_question.ensures.told ∙ c.loop-statement.invariant.same;
      gathered = c.in_ok-check_question.ensures.gathered;
    }

pub loop-statement-preserved-else-is_password : goal.loop-statement-preserved-else-is_password
loop-statement-preserved-else-is_password c =
    let ifr = c.args.forms.now in
    let ns = nodes_of ifr in
    let s = c.requires.accepted.checked.spelled in
    let n = statement_node c.in-Some.statement in
    let left = all_statements_left c.loop-statement.statement-iterator in
    let rest = all_statements_left c.next.new.self in
    let steps : left ≡ n ∷ rest = c.in-Some.ensures.steps in
    let here : Contains left n = subst (λ (l : List Node). Contains l n) (sym steps) (0, omega arith, refl) in
    let within = c.loop-statement.invariant.within n here in
    let e = c.of-entry.result in
    let at = goal.at.loop-statement-preserved-else-is_password c in
    let of = kept at.After-of-question in
    let es = c.loop-statement.by_place.items in
    let node : node_in ifr e.place ≡ n = ap (node_in ifr) of.place ∙ node_in_place ifr n s within in
    let count : c.len.result ≡ length es = omega (arith, c.len.ensures) in
    let id : c.id.result ≡ question_id n.op = c.id.ensures ∙ ap (λ (a : Asked). question_id a.node.op) c.of-question.ensures in
    let password : c.is_password.result ≡ is_password n = c.is_password.ensures ∙ ap (λ (a : Asked). is_password a.node) c.of-question.ensures in
    record {
      can = tt;
      ends = tt;
      within = λ m there. c.loop-statement.invariant.within m (subst (λ (l : List Node). Contains l m) (sym steps) (further n rest m there));
      kept = rw c.in_ok-push-2.ensures.items (all_more (λ x. IsQuestionEntry ifr x) es e c.loop-statement.invariant.kept (entry_kept ifr (layout_of ns) n e s within of));
      found = ap (λ (l : List QuestionEntry). map (entry_view ifr) l ++ map (asked ns) (filter is_question rest)) c.in_ok-push-2.ensures.items
          ∙ push_question ifr (layout_of ns) es e n left rest (questions ns) s within of steps c.loop-statement.invariant.found;
      numbered = c.in_ok-push.ensures.items ∙ numbers_more ifr es e n c.loop-statement.numbers.items c.id.result c.len.result c.loop-statement.invariant.numbered node id count
          ∙ ap (λ (l : List QuestionEntry). ids_from 0 (map (entry_view ifr) l)) (sym c.in_ok-push-2.ensures.items);
      secret = secret_same ifr es e n c.loop-statement.passwords.items c.loop-statement.invariant.secret node (sym password ∙ c.if-is_password.false)
          ∙ ap (λ (l : List QuestionEntry). filter (λ x. is_password (node_in ifr x.place)) l) (sym c.in_ok-push-2.ensures.items);
      same = first_later (layout_of ns) (is_known ns) (question_view c.of-question.result) (map (asked ns) (filter is_question left)) (map (asked ns) (filter is_question rest))
          (first at.After-of-question) c.in_ok-check_question.ensures.told ∙ c.loop-statement.invariant.same;
      gathered = c.in_ok-check_question.ensures.gathered;
    }

pub loop-statement-preserved : goal.loop-statement-preserved
loop-statement-preserved c =
    let ns = nodes_of c.args.forms.now in
    let n = statement_node c.in-Some.statement in
    let left = all_statements_left c.loop-statement.statement-iterator in
    let rest = all_statements_left c.next.new.self in
    let steps : left ≡ n ∷ rest = c.in-Some.ensures.steps in
    let passed = pass_statement (layout_of ns) n left rest (is_not_asked (is_question n) (mark n) c.in_default.ensures) steps in
    record {
      can = tt;
      ends = tt;
      within = λ m there. c.loop-statement.invariant.within m (subst (λ (l : List Node). Contains l m) (sym steps) (further n rest m there));
      kept = c.loop-statement.invariant.kept;
      found = ap (λ (l : List Asked). map (entry_view c.args.forms.now) c.loop-statement.by_place.items ++ l) passed ∙ c.loop-statement.invariant.found;
      numbered = c.loop-statement.invariant.numbered;
      secret = c.loop-statement.invariant.secret;
      same = ap (λ (l : List Asked). first_part_fault (layout_of ns) (is_known ns) (flat_map parts_of l)) passed ∙ c.loop-statement.invariant.same;
      gathered = c.loop-statement.invariant.gathered;
    }
