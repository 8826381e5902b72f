-- Conditions of questions are kept, and those of a number are found again.
use Rattle.std.proofs.Common.{◌≡◌, ℕ, true, List, [], ◌∷◌, length, map, refl, sym, ap, ◌∙◌, subst, inl, inr, arith}
use Rattle.std.specs.Prelude.{◌==◌, Contains, filter}
use Rattle.std.proofs.lemmas.Bool.{cases_Bool, eqb-true}
use Rattle.std.proofs.lemmas.List.{length-map}
use Rattle.ifr_opcodes.specs.declared.codes.TheConstants.{NO_SUBMIT_IF}
use Rattle.ifr_opcodes.specs.Opcode.{number}
use Rattle.ifr_opcodes.specs.Forest.{Node, SpellsForest, node_at}
use Rattle.ifr_opcodes.specs.Reading.{tree_of}
use Rattle.ifr_nodes.specs.code.Checked.{has_node, node_in, or_empty}
use Rattle.ifr_nodes.specs.code.Ends.{expression_end}
use Rattle.ifr_opcodes.specs.Rows.{row_of, is_condition_number}
use Rattle.ifr_nodes.specs.Nodes.{nodes_of, is_no_submit, this_of}
use Rattle.ifr_index.specs.code.Tables.{inner_guard, parent_place, is_question_condition, kept_condition, conditions_among, condition_table, IsConditionEntry, AreConditionEntries}
use Rattle.ifr_index.specs.declared.index.ConditionEntry.{ConditionEntry}
use Rattle.ifr_index.proofs.EntryLemmas.{all_entries_are, nodes_again}
use Rattle.ifr_nodes.proofs.ViewLemmas.{contains_found, further, is_at, node_in_place, some_there}

pub is_entry : (bytes : List ℕ) (n : Node) → SpellsForest bytes (tree_of bytes) → Contains (nodes_of bytes) n → is_question_condition n ≡ true → IsConditionEntry bytes (kept_condition (nodes_of bytes) n)
is_entry bytes n s within is =
    let same : n ≡ node_in bytes n.place = sym (node_in_place bytes n s within) in
    record {
      there = (is_at bytes n s within).there;
      condition = is;
      code = ap (λ (m : Node). number m.op) same;
      before = refl;
      question = ap parent_place same;
      within = ap this_of same;
      guard = ap (λ (m : Node). inner_guard (nodes_of bytes) m.path) same;
      ends = ap expression_end same;
    }

pub all_entries : (bytes : List ℕ) → SpellsForest bytes (tree_of bytes) → AreConditionEntries bytes (condition_table (nodes_of bytes))
all_entries bytes s = all_entries_are (λ one. IsConditionEntry bytes one) is_question_condition (kept_condition (nodes_of bytes)) (nodes_of bytes) (λ n within is. is_entry bytes n s within is)

-- the nodes of those of a number
abbrev pub of_number : List ℕ → ℕ → List ConditionEntry → List Node
of_number bytes code kept = map (λ one. node_in bytes one.place) (filter (λ one. one.code == code) kept)

pub again : (bytes : List ℕ) (code : ℕ) (ns : List Node) → is_condition_number code ≡ true → SpellsForest bytes (tree_of bytes) → ((n : Node) → Contains ns n → Contains (nodes_of bytes) n)
    → of_number bytes code (conditions_among (nodes_of bytes) ns) ≡ filter (λ n. number n.op == code) ns
again bytes code [] condition s within = refl
again bytes code (n ∷ ns) condition s within =
    let later = again bytes code ns condition s (λ m w. within m (further n ns m w)) in
    elim (cases_Bool (number n.op == code)) [
      | inl is ↦
          let kept : is_question_condition n ≡ true = ap is_condition_number (eqb-true (number n.op) code is) ∙ condition in
          rw (kept, is) (ap (λ (m : Node). m ∷ of_number bytes code (conditions_among (nodes_of bytes) ns)) (node_in_place bytes n s (within n (0, omega arith, refl))) ∙ ap (λ (l : List Node). n ∷ l) later)
      | inr other ↦ elim (cases_Bool (is_question_condition n)) [
        | inl kept ↦ rw (kept, other) later
        | inr plain ↦ rw (plain, other) later
      ]
    ]

-- the nodes of those that deny a submission
abbrev pub denying : List ℕ → List ConditionEntry → List Node
denying bytes kept = of_number bytes NO_SUBMIT_IF kept

pub all_again : (bytes : List ℕ) → SpellsForest bytes (tree_of bytes) → denying bytes (condition_table (nodes_of bytes)) ≡ filter is_no_submit (nodes_of bytes)
unfolding is_condition_number row_of
all_again bytes s = again bytes NO_SUBMIT_IF (nodes_of bytes) refl s (λ n w. w)

-- ---- one of them

pub stands : (bytes : List ℕ) (place : ℕ) → has_node bytes place ≡ true → Contains (nodes_of bytes) (node_in bytes place)
unfolding node_in
stands bytes place there =
    let found = some_there (node_at (nodes_of bytes) place) there in
    subst (λ (n : Node). Contains (nodes_of bytes) n) (sym (ap or_empty found.1)) (contains_found (nodes_of bytes) place found.0 found.1)

-- ---- all of them

pub condition_entries : (ns : List Node) (table : List ConditionEntry) → table ≡ condition_table ns → length table ≡ length (filter is_question_condition ns)
condition_entries ns table e = ap (λ (t : List ConditionEntry). length t) e ∙ length-map (filter is_question_condition ns) (kept_condition ns)

pub all_conditions_again : (bytes : List ℕ) → SpellsForest bytes (tree_of bytes)
    → map (λ (kept : ConditionEntry). node_in bytes kept.place) (condition_table (nodes_of bytes)) ≡ filter is_question_condition (nodes_of bytes)
all_conditions_again bytes s = nodes_again bytes (λ (kept : ConditionEntry). kept.place) is_question_condition (kept_condition (nodes_of bytes)) (nodes_of bytes) (λ n. refl) s (λ n w. w)
