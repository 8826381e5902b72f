-- The conditions of a question are the first of those behind its place, as far as they name this place as their question's.
use Rattle.std.proofs.Common.{◌≡◌, ℕ, Bool, true, false, cond, nat_lt, List, [], ◌∷◌, ◌++◌, append_assoc, map, refl, sym, ap, ◌∙◌, subst, inl, inr}
use Rattle.std.specs.Prelude.{◌==◌, Contains, filter}
use Rattle.std.specs.List.{take_while}
use Rattle.std.proofs.lemmas.Bool.{cases_Bool, cond-true, cond-false, eq-eqb, ne_eqb, false≢true}
use Rattle.std.proofs.lemmas.List.{map-append}
use Rattle.std.proofs.lemmas.List.Elements.{All-nil, All-same, All-filter, filter-append, Contains-append_right}
use Rattle.ifr_opcodes.specs.Opcode.{number, has_scope}
use Rattle.ifr_opcodes.specs.Forest.{Ancestor, Node, as_ancestor, nodes_at, below}
use Rattle.ifr_opcodes.specs.Reading.{tree_of}
use Rattle.ifr_opcodes.proofs.StatementLemmas.{question_is_statement}
use Rattle.ifr_nodes.specs.Checked.{IsChecked}
use Rattle.ifr_nodes.specs.code.Checked.{IsNodeOf, node_in}
use Rattle.ifr_opcodes.specs.Rows.{is_condition_number}
use Rattle.ifr_nodes.specs.Nodes.{nodes_of, is_question, of_question}
use Rattle.ifr_index.specs.code.Tables.{IsConditionEntry, AreConditionEntries, is_question_condition, kept_condition, conditions_among, condition_table, parent_place}
use Rattle.ifr_index.specs.declared.index.ConditionEntry.{ConditionEntry}
use Rattle.ifr_index.proofs.BehindPlaceLemmas.{apart, entries_behind, front, no_front}
use Rattle.ifr_index.proofs.ConditionsLeftLemmas.{left_of}
use Rattle.ifr_index.proofs.EntryLemmas.{nodes_again}
use Rattle.ifr_index.proofs.InsideLemmas.{behind_node}
use Rattle.ifr_index.proofs.ConditionFacts.{has_question, question_place}
use Rattle.ifr_index.proofs.NoSubmitLemmas.{again, all_entries, of_number}
use Rattle.ifr_index.proofs.PathLemmas.{kept}
use Rattle.ifr_nodes.proofs.PlaceLemmas.{node_stands}
use Rattle.ifr_index.proofs.QuestionFacts.{last_of, no_statement_inside}
use Rattle.ifr_nodes.proofs.RuleFacts.{one_place, split_last}
use Rattle.ifr_nodes.proofs.ScopeLemmas.{path_inside}
use Rattle.ifr_nodes.proofs.ViewLemmas.{below_within, contains_found}

-- the place of the question of a condition that stands below a question is that question's
its_place : (bytes : List ℕ) (q n : Node) → IsChecked bytes → Contains (nodes_of bytes) q → is_question q ≡ true → Contains (below q) n → is_question_condition n ≡ true → parent_place n ≡ q.place
its_place bytes q n checked within asks inner is =
    let h = has_question bytes n checked (below_within (tree_of bytes) 4 [] q n within inner) is in
    let inside = path_inside q.children _ (q.path ++ as_ancestor q ∷ []) n inner in
    let whole : n.path ≡ q.path ++ as_ancestor q ∷ inside.0 = inside.1 ∙ append_assoc q.path (as_ancestor q ∷ []) inside.0 in
    question_place bytes n h ∙ elim (split_last inside.0) [
      | inl bare ↦
          let same = last_of h.question.path q.path (as_ancestor h.question) (as_ancestor q) (sym h.path ∙ whole ∙ ap (λ (l : List Ancestor). q.path ++ as_ancestor q ∷ l) bare) in
          ap (λ (a : Ancestor). a.place) same.1
      | inr (before, a, last) ↦
          let longer : n.path ≡ (q.path ++ as_ancestor q ∷ before) ++ a ∷ [] = whole ∙ ap (λ (l : List Ancestor). q.path ++ as_ancestor q ∷ l) last ∙ sym (append_assoc q.path (as_ancestor q ∷ before) (a ∷ [])) in
          let same = last_of h.question.path (q.path ++ as_ancestor q ∷ before) (as_ancestor h.question) a (sym h.path ∙ longer) in
          absurd (false≢true (sym (no_statement_inside bytes q h.question before checked h.within asks same.0) ∙ question_is_statement (number h.question.op) h.asks))
    ]

-- A node whose place is that of a condition's question is a question, and has the condition below it.
of_place : (bytes : List ℕ) (m n : Node) → IsChecked bytes → Contains (nodes_of bytes) m → Contains (nodes_of bytes) n → is_question_condition n ≡ true → parent_place n ≡ m.place → (is_question m ≡ true) × Contains (below m) n
of_place bytes m n checked within there is e =
    let h = has_question bytes n checked there is in
    let same = one_place bytes h.question m checked h.within within (sym (question_place bytes n h) ∙ e) in
    (ap is_question (sym same) ∙ h.asks, subst (λ (q : Node). Contains (below q) n) same h.below)

-- the conditions behind a node that name its place
abbrev named : List ℕ → Node → List ConditionEntry
named bytes m = take_while (λ one. one.question == m.place) (filter (λ one. nat_lt m.place one.place) (condition_table (nodes_of bytes)))

behind_it : (bytes : List ℕ) (m : Node) → filter (λ (one : ConditionEntry). nat_lt m.place one.place) (condition_table (nodes_of bytes)) ≡ conditions_among (nodes_of bytes) (filter (λ n. nat_lt m.place n.place) (nodes_of bytes))
behind_it bytes m = entries_behind is_question_condition (kept_condition (nodes_of bytes)) (λ (one : ConditionEntry). one.place) (λ n. refl) m.place (nodes_of bytes)

both : (ns xs ys : List Node) → conditions_among ns (xs ++ ys) ≡ conditions_among ns xs ++ conditions_among ns ys
both ns xs ys = ap (map (kept_condition ns)) (filter-append is_question_condition xs ys) ∙ map-append (kept_condition ns) (filter is_question_condition xs) (filter is_question_condition ys)

named_of_question : (bytes : List ℕ) (q : Node) → IsChecked bytes → Contains (nodes_of bytes) q → is_question q ≡ true → named bytes q ≡ conditions_among (nodes_of bytes) (below q)
named_of_question bytes q checked within asks =
    let b = behind_node bytes q checked.spelled within in
    let names : ConditionEntry → Bool = λ one. one.question == q.place in
    let there : (n : Node) → Contains b.others n → Contains (nodes_of bytes) n =
    λ n w. kept (λ m. nat_lt q.place m.place) (nodes_of bytes) n (subst (λ (l : List Node). Contains l n) (sym b.parts) (Contains-append_right (below q) b.others n w)) in
    let none : take_while names (conditions_among (nodes_of bytes) b.others) ≡ [] = no_front is_question_condition (kept_condition (nodes_of bytes)) names b.others
    (λ n w is. ne_eqb (parent_place n) q.place (λ e. apart (λ (m : Node). m.place) _ (below q) b.others n b.rise (of_place bytes q n checked within (there n w) is e).1 w)) in
    ap (take_while names) (behind_it bytes q ∙ ap (conditions_among (nodes_of bytes)) b.parts ∙ both (nodes_of bytes) (below q) b.others)
    ∙ front is_question_condition (kept_condition (nodes_of bytes)) names (below q) (conditions_among (nodes_of bytes) b.others) (λ n w is. eq-eqb (parent_place n) q.place (its_place bytes q n checked within asks w is)) none

named_of_other : (bytes : List ℕ) (m : Node) → IsChecked bytes → Contains (nodes_of bytes) m → is_question m ≡ false → named bytes m ≡ []
named_of_other bytes m checked within other =
    let names : ConditionEntry → Bool = λ one. one.question == m.place in
    let behind = filter (λ n. nat_lt m.place n.place) (nodes_of bytes) in
    ap (take_while names) (behind_it bytes m) ∙ no_front is_question_condition (kept_condition (nodes_of bytes)) names behind
    (λ n w is. ne_eqb (parent_place n) m.place (λ e. false≢true (sym other ∙ (of_place bytes m n checked within (kept (λ p. nat_lt m.place p.place) (nodes_of bytes) n w) is e).0)))

-- those in the scope of a question; none of what is none
abbrev in_scope : List ℕ → Node → List ConditionEntry
in_scope bytes m = map (kept_condition (nodes_of bytes)) (of_question is_question_condition m)

named_in_scope : (bytes : List ℕ) (m : Node) → IsChecked bytes → Contains (nodes_of bytes) m → named bytes m ≡ in_scope bytes m
named_in_scope bytes m checked within = elim (cases_Bool (is_question m)) [
  | inl asks ↦ rw asks (named_of_question bytes m checked within asks)
  | inr other ↦ rw other (named_of_other bytes m checked within other)
]

-- where no scope is opened there is none
pub none_inside : (bytes : List ℕ) (m : Node) (which : Node → Bool) → IsChecked bytes → Contains (nodes_of bytes) m → has_scope m.op ≡ false → of_question which m ≡ []
none_inside bytes m which checked within bare =
    let leaf = (node_stands bytes (tree_of bytes) m checked.spelled within).2.0.leaf bare in
    let nothing : below m ≡ [] = ap (nodes_at _ (m.path ++ as_ancestor m ∷ [])) leaf in
    elim (cases_Bool (is_question m)) [ inl asks ↦ rw asks (ap (filter which) nothing) | inr other ↦ rw other refl ]

-- ---- what is kept of them

-- the conditions behind a node that opens a scope
abbrev pub kept_behind : List ℕ → Node → List ConditionEntry
kept_behind bytes m = cond (has_scope m.op) (filter (λ one. nat_lt m.place one.place) (condition_table (nodes_of bytes))) []

pub kept_are : (bytes : List ℕ) (m : Node) (its : List ConditionEntry) → IsChecked bytes → its ≡ kept_behind bytes m → AreConditionEntries bytes its
kept_are bytes m its checked e = elim (cases_Bool (has_scope m.op)) [
  | inl scoped ↦
      All-same (λ one. IsConditionEntry bytes one) its _ (e ∙ cond-true (has_scope m.op) _ _ scoped)
      (All-filter (λ one. nat_lt m.place one.place) (λ one. IsConditionEntry bytes one) (condition_table (nodes_of bytes)) (all_entries bytes checked.spelled))
  | inr bare ↦ All-same (λ one. IsConditionEntry bytes one) its [] (e ∙ cond-false (has_scope m.op) _ _ bare) (All-nil (λ one. IsConditionEntry bytes one))
]

-- what is kept and names the place of a node is in its scope
kept_named : (bytes : List ℕ) (m : Node) (place : ℕ) (its : List ConditionEntry) → IsChecked bytes → Contains (nodes_of bytes) m → place ≡ m.place → its ≡ kept_behind bytes m
    → take_while (λ one. one.question == place) its ≡ in_scope bytes m
kept_named bytes m place its checked within same e =
    let behind : List ConditionEntry = filter (λ one. nat_lt m.place one.place) (condition_table (nodes_of bytes)) in
    let first : List ConditionEntry → List ConditionEntry = take_while (λ one. one.question == m.place) in
    ap (λ (p : ℕ). take_while (λ (one : ConditionEntry). one.question == p) its) same ∙ ap first e ∙ elim (cases_Bool (has_scope m.op)) [
      | inl scoped ↦ ap first (cond-true (has_scope m.op) behind [] scoped) ∙ named_in_scope bytes m checked within
      | inr bare ↦ ap first (cond-false (has_scope m.op) behind [] bare) ∙ sym (ap (map (kept_condition (nodes_of bytes))) (none_inside bytes m is_question_condition checked within bare))
    ]

-- those of a number are the conditions of this number in the scope of the question
pub conditions_kept : (bytes : List ℕ) (m : Node) (code place : ℕ) (its : List ConditionEntry) → IsChecked bytes → IsNodeOf bytes m → is_condition_number code ≡ true → place ≡ m.place → its ≡ kept_behind bytes m
    → left_of bytes place code its ≡ of_question (λ n. number n.op == code) m
conditions_kept bytes m code place its checked is condition same e =
    let within = contains_found (nodes_of bytes) m.place m is in
    ap (of_number bytes code) (kept_named bytes m place its checked within same e) ∙ elim (cases_Bool (is_question m)) [
      | inl asks ↦ rw asks (again bytes code (below m) condition checked.spelled (λ n w. below_within (tree_of bytes) 4 [] m n within w))
      | inr other ↦ rw other refl
    ]

-- those of any number are all conditions in the scope of the question
pub all_kept : (bytes : List ℕ) (m : Node) (place : ℕ) (its : List ConditionEntry) → IsChecked bytes → IsNodeOf bytes m → place ≡ m.place → its ≡ kept_behind bytes m
    → map (λ one. node_in bytes one.place) (take_while (λ one. one.question == place) its) ≡ of_question is_question_condition m
all_kept bytes m place its checked is same e =
    let within = contains_found (nodes_of bytes) m.place m is in
    ap (map (λ (one : ConditionEntry). node_in bytes one.place)) (kept_named bytes m place its checked within same e) ∙ elim (cases_Bool (is_question m)) [
      | inl asks ↦ rw asks (nodes_again bytes (λ (one : ConditionEntry). one.place) is_question_condition (kept_condition (nodes_of bytes)) (below m) (λ n. refl) checked.spelled (λ n w. below_within (tree_of bytes) 4 [] m n within w))
      | inr other ↦ rw other refl
    ]
