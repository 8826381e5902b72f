-- The options of a question are the forms, statements and options behind it, up to the next that is no option.
use Rattle.std.proofs.Common.{◌≡◌, ℕ, zero, suc, ◌+◌, ◌<◌, ◌≤◌, length, Bool, true, false, cond, nat_lt, List, [], ◌∷◌, ◌++◌, append_assoc, map, refl, sym, ap, ◌∙◌, subst, inl, inr, arith}
use Rattle.std.specs.Prelude.{◌==◌, ◌||◌, Contains, filter}
use Rattle.std.specs.List.{take_while}
use Rattle.std.proofs.lemmas.Bool.{cases_Bool, cond-true, cond-false, lt-ltb, ltb-true, false≢true}
use Rattle.std.proofs.lemmas.List.{map-append}
use Rattle.std.proofs.lemmas.List.Elements.{All-nil, All-same, All-filter, All-contains, filter-append, filter_passes, Contains-append_cases, Contains-append_right}
use Rattle.std.proofs.lemmas.List.Sums.{take_while-cons}
use Rattle.hii_bytes.specs.code.FirstFaults.{Rise}
use Rattle.ifr_opcodes.specs.declared.codes.TheConstants.{ONE_OF_OPTION}
use Rattle.ifr_opcodes.specs.Opcode.{number, has_scope}
use Rattle.ifr_opcodes.specs.Forest.{Node, as_ancestor, below}
use Rattle.ifr_opcodes.specs.Reading.{tree_of}
use Rattle.ifr_opcodes.proofs.StatementLemmas.{question_is_statement}
use Rattle.ifr_nodes.specs.Checked.{IsChecked}
use Rattle.ifr_nodes.specs.code.Checked.{IsNodeOf, node_in}
use Rattle.ifr_index.specs.code.Index.{is_indexed}
use Rattle.ifr_nodes.specs.Nodes.{nodes_of, is_form, is_question, is_statement, is_option, options}
use Rattle.ifr_index.specs.code.Tables.{IsEntry, AreEntries, kept_entry, entry_table}
use Rattle.ifr_index.specs.declared.index.Entry.{Entry}
use Rattle.ifr_index.proofs.BehindPlaceLemmas.{apart, rise_rest, entries_behind, front, HasBefore, past, none_before}
use Rattle.ifr_index.proofs.ConditionsOfLemmas.{none_inside}
use Rattle.ifr_index.proofs.EntryLemmas.{nodes_again}
use Rattle.ifr_index.proofs.IndexingLemmas.{few_of}
use Rattle.ifr_index.proofs.InsideLemmas.{behind_node}
use Rattle.ifr_index.proofs.OptionFacts.{option_question, not_below, behind_question, question_there}
use Rattle.ifr_index.proofs.KindLemmas.{all_are_entries}
use Rattle.ifr_index.proofs.PathLemmas.{kept}
use Rattle.ifr_index.proofs.QuestionFacts.{no_form_inside, no_statement_inside}
use Rattle.ifr_nodes.proofs.ScopeLemmas.{path_inside}
use Rattle.ifr_nodes.proofs.ViewLemmas.{further, below_within, contains_found}

-- the nodes of the options that come first
abbrev pub first_options : List ℕ → List Entry → List Node
first_options bytes its = map (λ one. node_in bytes one.place) (take_while (λ one. one.code == ONE_OF_OPTION) its)

-- ---- options among forms, statements and options

-- two tests that agree on some nodes
pub filters : (p q : Node → Bool) (ns : List Node) → ((n : Node) → Contains ns n → p n ≡ q n) → filter p ns ≡ filter q ns
filters p q [] same = refl
filters p q (n ∷ ns) same =
    ap (λ (b : Bool). cond b (n ∷ filter p ns) (filter p ns)) (same n (0, omega arith, refl))
    ∙ ap (λ (l : List Node). cond (q n) (n ∷ l) l) (filters p q ns (λ m w. same m (further n ns m w)))

-- what passes a test is among those that pass it
pub passes : {X : Type 0} (p : X → Bool) (xs : List X) (x : X) → Contains xs x → p x ≡ true → Contains (filter p xs) x
passes p [] x (k, lt, e) is = absurd (omega arith)
passes p (y ∷ xs) x (zero, lt, e) is = let same : y ≡ x = e in rw (ap p same ∙ is) (0, omega arith, same)
passes p (y ∷ xs) x (suc k, lt, e) is =
    let later = passes p xs x (k, omega arith, e) is in
    elim (cases_Bool (p y)) [ inl kept ↦ rw kept (further y (filter p xs) x later) | inr other ↦ rw other later ]

statement_indexed : (n : Node) → is_statement n ≡ true → is_indexed n ≡ true
statement_indexed n states = elim (cases_Bool (is_form n)) [ inl form ↦ rw form refl | inr other ↦ rw (other, states) refl ]

-- what stands below a question is an option, or none of the three
below_is_option : (bytes : List ℕ) (q n : Node) → IsChecked bytes → Contains (nodes_of bytes) q → is_question q ≡ true → Contains (below q) n → is_indexed n ≡ is_option n
below_is_option bytes q n checked within asks inner =
    let inside = path_inside q.children _ (q.path ++ as_ancestor q ∷ []) n inner in
    let whole : n.path ≡ q.path ++ as_ancestor q ∷ inside.0 = inside.1 ∙ append_assoc q.path (as_ancestor q ∷ []) inside.0 in
    let there = below_within (tree_of bytes) 4 [] q n within inner in
    ap (λ (b : Bool). b || is_statement n || is_option n) (no_form_inside bytes q n inside.0 checked there asks whole) ∙ ap (λ (b : Bool). b || is_option n) (no_statement_inside bytes q n inside.0 checked there asks whole)

-- where a form, a statement or an option stands before each option, no option is the first of them
not_first : (all : List Node) (low : ℕ) (ns : List Node) → Rise (λ (n : Node). n.place) low ns → ((n : Node) → Contains ns n → is_option n ≡ true → HasBefore is_indexed ns n)
    → take_while (λ one. one.code == ONE_OF_OPTION) (map (kept_entry all) (filter is_indexed ns)) ≡ []
not_first all low [] r before = refl
not_first all low (n ∷ ns) r before = elim (cases_Bool (is_indexed n)) [
  | inl indexed ↦ rw indexed (take_while-cons (λ one. one.code == ONE_OF_OPTION) (kept_entry all n) (map (kept_entry all) (filter is_indexed ns)) ∙ elim (cases_Bool (is_option n)) [
    | inl is ↦ absurd (none_before is_indexed low n ns r (before n (0, omega arith, refl) is))
    | inr other ↦ cond-false (is_option n) _ _ other
  ])
  | inr plain ↦ rw plain (not_first all (n.place + 1) ns r.1 (λ m w is. past is_indexed n m ns plain (before m (further n ns m w) is)))
]

-- ---- the options behind a statement

-- what is kept behind a node that opens a scope
abbrev pub kept_behind : List ℕ → Node → List Entry
kept_behind bytes m = cond (has_scope m.op) (filter (λ one. nat_lt m.place one.place) (entry_table (nodes_of bytes))) []

pub behind_it : (bytes : List ℕ) (m : Node) → filter (λ (one : Entry). nat_lt m.place one.place) (entry_table (nodes_of bytes)) ≡ map (kept_entry (nodes_of bytes)) (filter is_indexed (filter (λ n. nat_lt m.place n.place) (nodes_of bytes)))
behind_it bytes m = entries_behind is_indexed (kept_entry (nodes_of bytes)) (λ (one : Entry). one.place) (λ n. refl) m.place (nodes_of bytes)

-- a node of the package at a greater place
pub record IsAfter (bytes : List ℕ) (m n : Node) : Type 0 where
  pub within : Contains (nodes_of bytes) n
  pub less : m.place < n.place

pub is_after : (bytes : List ℕ) (m n : Node) → Contains (filter (λ p. nat_lt m.place p.place) (nodes_of bytes)) n → IsAfter bytes m n
is_after bytes m n w =
    let later : nat_lt m.place n.place ≡ true = All-contains (λ (p : Node). nat_lt m.place p.place ≡ true) (filter (λ p. nat_lt m.place p.place) (nodes_of bytes)) n (filter_passes (λ p. nat_lt m.place p.place) (nodes_of bytes)) w in
    record { within = kept (λ p. nat_lt m.place p.place) (nodes_of bytes) n w; less = ltb-true m.place n.place later }

options_of_question : (bytes : List ℕ) (q : Node) → IsChecked bytes → Contains (nodes_of bytes) q → is_question q ≡ true → first_options bytes (filter (λ one. nat_lt q.place one.place) (entry_table (nodes_of bytes))) ≡ filter is_option (below q)
options_of_question bytes q checked within asks =
    let ns = nodes_of bytes in
    let place : Node → ℕ = λ m. m.place in
    let b = behind_node bytes q checked.spelled within in
    let states : is_statement q ≡ true = question_is_statement (number q.op) asks in
    let is_one : Entry → Bool = λ one. one.code == ONE_OF_OPTION in
    let entries : List Node → List Entry = λ l. map (kept_entry ns) (filter is_indexed l) in
    let both : entries (below q ++ b.others) ≡ entries (below q) ++ entries b.others = ap (map (kept_entry ns)) (filter-append is_indexed (below q) b.others) ∙ map-append (kept_entry ns) (filter is_indexed (below q)) (filter is_indexed b.others) in
    let same : filter is_indexed (below q) ≡ filter is_option (below q) = filters is_indexed is_option (below q) (λ n w. below_is_option bytes q n checked within asks w) in
    let before : (n : Node) → Contains b.others n → is_option n ≡ true → HasBefore is_indexed b.others n = λ n w is.
    let after = is_after bytes q n (subst (λ (l : List Node). Contains l n) (sym b.parts) (Contains-append_right (below q) b.others n w)) in
    let h = option_question bytes n checked after.within is in
    elim (question_there bytes q n checked within states after.less h) [
      | inl itself ↦ absurd (apart place _ (below q) b.others n b.rise (subst (λ (m : Node). Contains (below m) n) itself h.below) w)
      | inr behind ↦
          let there : Contains (below q ++ b.others) h.question = subst (λ (l : List Node). Contains l h.question) b.parts (passes (λ m. nat_lt q.place m.place) ns h.question h.within (lt-ltb q.place h.question.place behind)) in
          elim (Contains-append_cases (below q) b.others h.question there) [
            | inl inner ↦ absurd (not_below bytes q h.question checked within asks (question_is_statement (number h.question.op) h.asks) inner)
            | inr v ↦ record { other = h.question; within = v; is = statement_indexed h.question (question_is_statement (number h.question.op) h.asks); less = behind_question bytes n checked h }
          ]
    ] in
    let none : take_while is_one (entries b.others) ≡ [] = not_first ns _ b.others (rise_rest place _ (below q) b.others b.rise) before in
    let first : take_while is_one (entries (below q) ++ entries b.others) ≡ entries (below q) = front is_indexed (kept_entry ns) is_one (below q) (entries b.others) (λ n w is. sym (below_is_option bytes q n checked within asks w) ∙ is) none in
    ap (λ (l : List Entry). map (λ one. node_in bytes one.place) (take_while is_one l)) (behind_it bytes q ∙ ap entries b.parts ∙ both)
    ∙ ap (map (λ (one : Entry). node_in bytes one.place)) first
    ∙ nodes_again bytes (λ (one : Entry). one.place) is_indexed (kept_entry ns) (below q) (λ n. refl) checked.spelled (λ n w. below_within (tree_of bytes) 4 [] q n within w) ∙ same

options_of_other : (bytes : List ℕ) (m : Node) → IsChecked bytes → Contains (nodes_of bytes) m → is_statement m ≡ true → is_question m ≡ false → first_options bytes (filter (λ one. nat_lt m.place one.place) (entry_table (nodes_of bytes))) ≡ []
options_of_other bytes m checked within states other =
    let ns = nodes_of bytes in
    let b = behind_node bytes m checked.spelled within in
    let all = below m ++ b.others in
    let before : (n : Node) → Contains all n → is_option n ≡ true → HasBefore is_indexed all n = λ n w is.
    let after = is_after bytes m n (subst (λ (l : List Node). Contains l n) (sym b.parts) w) in
    let h = option_question bytes n checked after.within is in
    elim (question_there bytes m n checked within states after.less h) [
      | inl itself ↦ absurd (false≢true (sym other ∙ ap is_question (sym itself) ∙ h.asks))
      | inr behind ↦ record {
        other = h.question;
        within = subst (λ (l : List Node). Contains l h.question) b.parts (passes (λ p. nat_lt m.place p.place) ns h.question h.within (lt-ltb m.place h.question.place behind));
        is = statement_indexed h.question (question_is_statement (number h.question.op) h.asks);
        less = behind_question bytes n checked h;
      }
    ] in
    ap (first_options bytes) (behind_it bytes m ∙ ap (λ (l : List Node). map (kept_entry ns) (filter is_indexed l)) b.parts)
    ∙ ap (map (λ (one : Entry). node_in bytes one.place)) (not_first ns _ all b.rise before)

options_first : (bytes : List ℕ) (m : Node) → IsChecked bytes → Contains (nodes_of bytes) m → is_statement m ≡ true → first_options bytes (filter (λ one. nat_lt m.place one.place) (entry_table (nodes_of bytes))) ≡ options m
options_first bytes m checked within states = elim (cases_Bool (is_question m)) [
  | inl asks ↦ options_of_question bytes m checked within asks ∙ sym (cond-true (is_question m) _ _ asks)
  | inr other ↦ options_of_other bytes m checked within states other ∙ sym (cond-false (is_question m) _ _ other)
]

pub options_kept : (bytes : List ℕ) (m : Node) (its : List Entry) → IsChecked bytes → IsNodeOf bytes m → is_statement m ≡ true → its ≡ kept_behind bytes m → first_options bytes its ≡ options m
options_kept bytes m its checked is states e =
    let within = contains_found (nodes_of bytes) m.place m is in
    let all : List Entry = filter (λ one. nat_lt m.place one.place) (entry_table (nodes_of bytes)) in
    ap (first_options bytes) e ∙ elim (cases_Bool (has_scope m.op)) [
      | inl scoped ↦ ap (first_options bytes) (cond-true (has_scope m.op) all [] scoped) ∙ options_first bytes m checked within states
      | inr bare ↦ ap (first_options bytes) (cond-false (has_scope m.op) all [] bare) ∙ sym (none_inside bytes m is_option checked within bare)
    ]

-- what is kept behind a node
pub are_behind : (bytes : List ℕ) (m : Node) → IsChecked bytes → AreEntries bytes (filter (λ (one : Entry). nat_lt m.place one.place) (entry_table (nodes_of bytes)))
are_behind bytes m checked = All-filter (λ (one : Entry). nat_lt m.place one.place) (λ one. IsEntry bytes one) (entry_table (nodes_of bytes)) (all_are_entries bytes checked.spelled)

-- It is a part of all.
pub fewer_kept : (bytes : List ℕ) (m : Node) (its : List Entry) → its ≡ kept_behind bytes m → length its ≤ length (entry_table (nodes_of bytes))
fewer_kept bytes m its e = elim (cases_Bool (has_scope m.op)) [
  | inl scoped ↦ omega (arith, ap (λ (l : List Entry). length l) (e ∙ cond-true (has_scope m.op) _ _ scoped), few_of (λ (one : Entry). nat_lt m.place one.place) (entry_table (nodes_of bytes)))
  | inr bare ↦ omega (arith, ap (λ (l : List Entry). length l) (e ∙ cond-false (has_scope m.op) _ _ bare))
]

pub entries_kept : (bytes : List ℕ) (m : Node) (its : List Entry) → IsChecked bytes → its ≡ kept_behind bytes m → AreEntries bytes its
entries_kept bytes m its checked e = elim (cases_Bool (has_scope m.op)) [
  | inl scoped ↦ All-same (λ one. IsEntry bytes one) its _ (e ∙ cond-true (has_scope m.op) _ _ scoped) (are_behind bytes m checked)
  | inr bare ↦ All-same (λ one. IsEntry bytes one) its [] (e ∙ cond-false (has_scope m.op) _ _ bare) (All-nil (λ one. IsEntry bytes one))
]
