-- Nodes that pass a test are kept, each as an entry, and found again.
use Rattle.std.proofs.Common.{◌≡◌, ℕ, Bool, true, List, [], ◌∷◌, map, refl, ap, ◌∙◌, inl, inr, arith}
use Rattle.std.specs.Prelude.{Contains, filter}
use Rattle.std.specs.List.{All, AllByRecursion}
use Rattle.std.proofs.lemmas.Bool.{cases_Bool}
use Rattle.std.proofs.lemmas.List.Elements.{All-from_recursion}
use Rattle.ifr_opcodes.specs.Forest.{Node, SpellsForest}
use Rattle.ifr_opcodes.specs.Reading.{tree_of}
use Rattle.ifr_nodes.specs.code.Checked.{node_in}
use Rattle.ifr_index.specs.code.Tables.{IsGuardEntry, AreGuardEntries, guard_entry, guard_table, inner_guard}
use Rattle.ifr_nodes.specs.Guards.{guards_among, is_guard}
use Rattle.ifr_nodes.specs.Nodes.{nodes_of}
use Rattle.ifr_opcodes.specs.Opcode.{number}
use Rattle.ifr_index.specs.declared.index.GuardEntry.{GuardEntry}
use Rattle.ifr_index.proofs.NumberLemmas.{is_guard_entry}
use Rattle.ifr_nodes.proofs.ViewLemmas.{further, node_in_place}

all_kept : {E : Type 0} (P : E → Type 0) (test : Node → Bool) (entry : Node → E) (ns : List Node)
    → ((n : Node) → Contains ns n → test n ≡ true → P (entry n)) → AllByRecursion P (map entry (filter test ns))
all_kept P test entry [] its = tt
all_kept P test entry (n ∷ ns) its =
    let later = all_kept P test entry ns (λ m w. its m (further n ns m w)) in
    elim (cases_Bool (test n)) [
      | inl is ↦ rw is (its n (0, omega arith, refl) is, later)
      | inr other ↦ rw other later
    ]

-- what is said of the entries of nodes that pass
pub all_entries_are : {E : Type 0} (P : E → Type 0) (test : Node → Bool) (entry : Node → E) (ns : List Node)
    → ((n : Node) → Contains ns n → test n ≡ true → P (entry n)) → All P (map entry (filter test ns))
all_entries_are P test entry ns its = All-from_recursion P (map entry (filter test ns)) (all_kept P test entry ns its)

-- the nodes at the places of entries are those that were kept
pub nodes_again : {E : Type 0} (bytes : List ℕ) (place : E → ℕ) (test : Node → Bool) (entry : Node → E) (ns : List Node)
    → ((n : Node) → place (entry n) ≡ n.place) → SpellsForest bytes (tree_of bytes) → ((n : Node) → Contains ns n → Contains (nodes_of bytes) n)
    → map (λ one. node_in bytes (place one)) (map entry (filter test ns)) ≡ filter test ns
nodes_again bytes place test entry [] places s within = refl
nodes_again bytes place test entry (n ∷ ns) places s within =
    let later = nodes_again bytes place test entry ns places s (λ m w. within m (further n ns m w)) in
    elim (cases_Bool (test n)) [
      | inl is ↦ rw is (ap (λ (m : Node). m ∷ map (λ one. node_in bytes (place one)) (map entry (filter test ns)))
          (ap (node_in bytes) (places n) ∙ node_in_place bytes n s (within n (0, omega arith, refl))) ∙ ap (λ (l : List Node). n ∷ l) later)
      | inr other ↦ rw other later
    ]

-- ---- all guards

pub all_guards_kept : (bytes : List ℕ) → SpellsForest bytes (tree_of bytes) → AreGuardEntries bytes (guard_table (nodes_of bytes))
all_guards_kept bytes s =
    all_entries_are (IsGuardEntry bytes) (λ n. is_guard (number n.op)) (λ n. guard_entry (inner_guard (nodes_of bytes) n.path) n) (nodes_of bytes)
    (λ n within guards. is_guard_entry bytes (inner_guard (nodes_of bytes) n.path) n s within guards)

pub all_guards_again : (bytes : List ℕ) → SpellsForest bytes (tree_of bytes)
    → map (λ (guard : GuardEntry). node_in bytes guard.place) (guard_table (nodes_of bytes)) ≡ guards_among (nodes_of bytes)
all_guards_again bytes s =
    nodes_again bytes (λ (guard : GuardEntry). guard.place) (λ n. is_guard (number n.op)) (λ n. guard_entry (inner_guard (nodes_of bytes) n.path) n) (nodes_of bytes)
    (λ n. refl) s (λ n w. w)
