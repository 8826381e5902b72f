-- What is kept of a lock is the place of a LOCKED of the package.
use Rattle.std.proofs.Common.{◌≡◌, ℕ, Bool, true, Option, Some, None, List, [], ◌∷◌, ◌++◌, refl, sym, ap, ◌∙◌, subst, inl, inr, arith}
use Rattle.std.specs.Prelude.{Contains, option_and_then, option_map, filter}
use Rattle.std.specs.List.{flat_map}
use Rattle.std.proofs.lemmas.Bool.{cases_Bool, cond-true, cond-false, and_parts}
use Rattle.ifr_opcodes.specs.Forest.{Node, SpellsForest}
use Rattle.ifr_opcodes.specs.Reading.{tree_of}
use Rattle.ifr_nodes.specs.code.Checked.{node_in, has_node}
use Rattle.ifr_index.specs.code.Index.{indexed_at, entry_of, lock_of_indexed}
use Rattle.ifr_scopes.specs.code.Locked.{IsLockedPlace}
use Rattle.ifr_nodes.specs.Locks.{is_locked, locks_scope, locked_in, chain, first_of_nodes, first_lock}
use Rattle.ifr_index.specs.code.Tables.{kept_entry}
use Rattle.ifr_nodes.specs.Nodes.{nodes_of}
use Rattle.ifr_index.specs.declared.index.Entry.{Entry}
use Rattle.ifr_nodes.proofs.ViewLemmas.{further, node_in_place, is_at}

-- One of these nodes, and a LOCKED.
record IsLockOf (ns : List Node) (lock : Node) : Type 0 where
  within : Contains ns lock
  locked : is_locked lock ≡ true

first-filter : (is : Node → Bool) (ns : List Node) (lock : Node) → first_of_nodes (filter is ns) ≡ Some lock → Contains ns lock × (is lock ≡ true)
first-filter is [] lock e = absurd cc
first-filter is (n ∷ ns) lock e = elim (cases_Bool (is n)) [
  | inl here ↦
      let same : n ≡ lock = cc (sym (ap first_of_nodes (cond-true (is n) (n ∷ filter is ns) (filter is ns) here)) ∙ e) in
      ((0, omega arith, same), ap is (sym same) ∙ here)
  | inr later ↦
      let its = first-filter is ns lock (sym (ap first_of_nodes (cond-false (is n) (n ∷ filter is ns) (filter is ns) later)) ∙ e) in
      (further n ns lock its.0, its.1)
]

first_along : (ns : List Node) (places : List ℕ) (lock : Node) → first_of_nodes (flat_map (locked_in ns) places) ≡ Some lock → IsLockOf ns lock
first_along ns [] lock e = absurd cc
first_along ns (place ∷ places) lock e = go (locked_in ns place) (first-filter (locks_scope place) ns lock) (first_along ns places lock) e
  where
    go : (its : List Node) → (first_of_nodes its ≡ Some lock → Contains ns lock × (locks_scope place lock ≡ true)) → (first_of_nodes (flat_map (locked_in ns) places) ≡ Some lock → IsLockOf ns lock)
        → first_of_nodes (its ++ flat_map (locked_in ns) places) ≡ Some lock → IsLockOf ns lock
    go [] here later e = later e
    go (m ∷ ms) here later e = let is = here e in record { within = is.0; locked = (and_parts _ _ is.1).0 }

looked_up : (ns : List Node) (found : Option Node) (lock : Node) → entry_of (first_lock ns) found ≡ Some lock → IsLockOf ns lock
looked_up ns None lock e = absurd cc
looked_up ns (Some n) lock e = first_along ns (chain n) lock e

-- The place that is kept, if there is one, is that of a LOCKED, which is this one.
pub record IsKeptLock (bytes : List ℕ) (lock : Option ℕ) (its : Option Node) : Type 0 where
  pub locked : IsLockedPlace bytes lock
  pub is : option_map (node_in bytes) lock ≡ its

pub lock_kept : (bytes : List ℕ) (place : ℕ) (lock : Option ℕ) → SpellsForest bytes (tree_of bytes) → lock ≡ option_map (λ (l : Node). l.place) (lock_of_indexed (nodes_of bytes) place) → IsKeptLock bytes lock (lock_of_indexed (nodes_of bytes) place)
lock_kept bytes place lock s e = go (lock_of_indexed (nodes_of bytes) place) refl e
  where
    go : (found : Option Node) → lock_of_indexed (nodes_of bytes) place ≡ found → lock ≡ option_map (λ (l : Node). l.place) found → IsKeptLock bytes lock found
    go None is e = subst (λ (o : Option ℕ). IsKeptLock bytes o None) (sym e) (record { locked = tt; is = refl })
    go (Some n) is e =
        let its = looked_up (nodes_of bytes) (indexed_at (nodes_of bytes) place) n is in
        let node : node_in bytes n.place ≡ n = node_in_place bytes n s its.within in
        let there : has_node bytes n.place ≡ true = (is_at bytes n s its.within).there in
        let locked : is_locked (node_in bytes n.place) ≡ true = ap is_locked node ∙ its.locked in
        subst (λ (o : Option ℕ). IsKeptLock bytes o (Some n)) (sym e) (record { locked = rw (there, locked) refl; is = ap (λ (m : Node). Some m) node })

-- what the index has of a form, a statement or an option tells its lock
pub lock_told : (ns : List Node) (found : Option Node) (entry : Option Entry) (lock : Option ℕ) → entry ≡ option_map (kept_entry ns) found → lock ≡ option_and_then (λ (x : Entry). x.lock) entry
    → lock ≡ option_map (λ (l : Node). l.place) (entry_of (first_lock ns) found)
lock_told ns None entry lock e is = is ∙ ap (option_and_then (λ (x : Entry). x.lock)) e
lock_told ns (Some n) entry lock e is = is ∙ ap (option_and_then (λ (x : Entry). x.lock)) e
