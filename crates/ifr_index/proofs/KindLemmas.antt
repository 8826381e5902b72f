-- Nodes of a kind are kept by their places, and found again; so are all statements.
use Rattle.std.proofs.Common.{◌≡◌, ℕ, Bool, true, List, [], ◌∷◌, map, refl, sym, ap, ◌∙◌, inl, inr, arith}
use Rattle.std.specs.Prelude.{Contains, filter}
use Rattle.std.proofs.lemmas.Bool.{cases_Bool}
use Rattle.ifr_opcodes.specs.Opcode.{number}
use Rattle.ifr_opcodes.specs.Forest.{Node, SpellsForest}
use Rattle.ifr_opcodes.specs.Reading.{tree_of}
use Rattle.ifr_opcodes.specs.Rows.{is_statement_number}
use Rattle.ifr_nodes.specs.Nodes.{nodes_of, is_form, is_statement}
use Rattle.ifr_nodes.specs.code.Checked.{node_in}
use Rattle.ifr_index.specs.code.Index.{is_indexed}
use Rattle.ifr_index.specs.code.Tables.{AreEntries, AreOfKind, IsEntry, IsOfKind, entry_table, kept_entry, places_of}
use Rattle.ifr_index.specs.declared.index.Entry.{Entry}
use Rattle.ifr_index.proofs.EntryLemmas.{all_entries_are, nodes_again}
use Rattle.ifr_nodes.proofs.ViewLemmas.{further, is_at, node_in_place}

-- ---- by their places

pub all_of_kind : (is : Node → Bool) (bytes : List ℕ) → SpellsForest bytes (tree_of bytes) → AreOfKind is bytes (places_of is (nodes_of bytes))
all_of_kind is bytes s =
    all_entries_are (IsOfKind is bytes) is (λ n. n.place) (nodes_of bytes)
    (λ n within kind. record { there = (is_at bytes n s within).there; kind = ap is (node_in_place bytes n s within) ∙ kind })

pub kind_again : (is : Node → Bool) (bytes : List ℕ) → SpellsForest bytes (tree_of bytes) → map (node_in bytes) (places_of is (nodes_of bytes)) ≡ filter is (nodes_of bytes)
kind_again is bytes s = nodes_again bytes (λ (place : ℕ). place) is (λ n. n.place) (nodes_of bytes) (λ n. refl) s (λ n w. w)

-- ---- statements, as entries

pub all_are_entries : (bytes : List ℕ) → SpellsForest bytes (tree_of bytes) → AreEntries bytes (entry_table (nodes_of bytes))
all_are_entries bytes s =
    all_entries_are (IsEntry bytes) is_indexed (kept_entry (nodes_of bytes)) (nodes_of bytes)
    (λ n within indexed. record { there = (is_at bytes n s within).there; code = ap (λ (m : Node). number m.op) (sym (node_in_place bytes n s within)) })

-- the statements among entries
abbrev pub stated : List ℕ → List Entry → List Node
stated bytes entries = map (λ entry. node_in bytes entry.place) (filter (λ entry. is_statement_number entry.code) entries)

pub is_kept : (n : Node) → is_statement n ≡ true → is_indexed n ≡ true
is_kept n is = elim (cases_Bool (is_form n)) [ inl form ↦ rw form refl | inr other ↦ rw (other, is) refl ]

pub again : (bytes : List ℕ) (all ns : List Node) → SpellsForest bytes (tree_of bytes) → ((n : Node) → Contains ns n → Contains (nodes_of bytes) n)
    → stated bytes (map (kept_entry all) (filter is_indexed ns)) ≡ filter is_statement ns
again bytes all [] s within = refl
again bytes all (n ∷ ns) s within =
    let later = again bytes all ns s (λ m w. within m (further n ns m w)) in
    elim (cases_Bool (is_statement n)) [
      | inl is ↦ rw (is_kept n is, is) (ap (λ (m : Node). m ∷ stated bytes (map (kept_entry all) (filter is_indexed ns))) (node_in_place bytes n s (within n (0, omega arith, refl))) ∙ ap (λ (l : List Node). n ∷ l) later)
      | inr other ↦ elim (cases_Bool (is_indexed n)) [
        | inl kept ↦ rw (kept, other) later
        | inr plain ↦ rw (plain, other) later
      ]
    ]

pub statements_again : (bytes : List ℕ) → SpellsForest bytes (tree_of bytes) → stated bytes (entry_table (nodes_of bytes)) ≡ filter is_statement (nodes_of bytes)
statements_again bytes s = again bytes (nodes_of bytes) (nodes_of bytes) s (λ n w. w)
