-- The guards of a node are kept.
use Rattle.std.proofs.Common.{◌≡◌, ℕ, zero, suc, ◌+◌, ◌<◌, ◌≤◌, Bool, true, false, eqb, Option, Some, List, [], ◌∷◌, ◌++◌, length, map, get_or, refl, sym, ap, ◌∙◌, subst, inl, inr, arith}
use Rattle.std.specs.Prelude.{Contains, ◌&&◌, filter, option_map}
use Rattle.std.specs.List.{AllByRecursion}
use Rattle.std.proofs.lemmas.Bool.{cases_Bool, eq-eqb, eqb-true, ne_eqb, cond-true, cond-false, and_parts, and_from, and_right}
use Rattle.std.proofs.lemmas.List.Elements.{All-from_recursion, Contains-get_or}
use Rattle.ifr_opcodes.specs.Opcode.{number}
use Rattle.ifr_opcodes.specs.Forest.{flat, Ancestor, Node, as_ancestor, below, SpellsForest}
use Rattle.ifr_opcodes.specs.Reading.{tree_of}
use Rattle.ifr_nodes.specs.Guards.{is_guard, node_within, nodes_on, guards, guards_among}
use Rattle.ifr_index.specs.code.Index.{is_indexed, kind_at, indexed_at, entry_of, or_none, guards_of_indexed, lock_of_indexed}
use Rattle.ifr_nodes.specs.code.Kept.{IsKept, AreKept, kept_guard, kept_guards}
use Rattle.ifr_nodes.specs.Locks.{first_lock}
use Rattle.ifr_nodes.specs.Nodes.{nodes_of, is_statement, statements, this_of}
use Rattle.ifr_nodes.specs.code.Checked.{IsNodeOf, AreNodesOf, node_in}
use Rattle.ifr_nodes.specs.declared.guard_place.GuardPlace.{GuardPlace}
use Rattle.ifr_nodes.proofs.ScopeLemmas.{IsScopeOf, Nest, path_nests}
use Rattle.ifr_nodes.proofs.ViewLemmas.{is_at, node_in_place, further, below_within, contains_found}
use Rattle.ifr_nodes.proofs.PlaceLemmas.{Within, above, is_found, nodes_within}

-- one of these nodes, from what it is around others
node_of_scope : (ns : List Node) (around : List Ancestor) (a : Ancestor) → IsScopeOf ns around a → Contains ns (node_within around a)
node_of_scope ns around a s =
    subst (λ (b : Ancestor). Contains ns (node_within around b)) s.is (subst (λ (path : List Ancestor). Contains ns (node_within path (as_ancestor s.node))) s.path s.within)

is_kept : (bytes : List ℕ) (n : Node) → SpellsForest bytes (tree_of bytes) → Contains (nodes_of bytes) n → is_guard (number n.op) ≡ true → IsKept bytes (kept_guard n)
is_kept bytes n s within guards =
    let at = is_at bytes n s within in
    record {
      stands = rw (at.there, at.opcode) guards;
      within = ap this_of (sym (node_in_place bytes n s within));
    }

are_kept : (bytes : List ℕ) (around path : List Ancestor) → SpellsForest bytes (tree_of bytes) → Nest (nodes_of bytes) around path
    → AllByRecursion (IsKept bytes) (map kept_guard (guards_among (nodes_on around path)))
are_kept bytes around [] s nest = tt
are_kept bytes around (a ∷ path) s nest = elim (cases_Bool (is_guard (number a.op))) [
  | inl guards ↦ rw guards (is_kept bytes (node_within around a) s (node_of_scope (nodes_of bytes) around a nest.0) guards, are_kept bytes (around ++ a ∷ []) path s nest.1)
  | inr other ↦ rw other (are_kept bytes (around ++ a ∷ []) path s nest.1)
]

-- the guards at the places of these
abbrev pub guards_again : List ℕ → List GuardPlace → List Node
guards_again bytes kept = map (λ guard. node_in bytes guard.place) kept

again : (bytes : List ℕ) (around path : List Ancestor) → SpellsForest bytes (tree_of bytes) → Nest (nodes_of bytes) around path
    → guards_again bytes (map kept_guard (guards_among (nodes_on around path))) ≡ guards_among (nodes_on around path)
again bytes around [] s nest = refl
again bytes around (a ∷ path) s nest =
    let others = nodes_on (around ++ a ∷ []) path in
    elim (cases_Bool (is_guard (number a.op))) [
      | inl guards ↦ rw guards (ap (λ (n : Node). n ∷ guards_again bytes (map kept_guard (guards_among others))) (node_in_place bytes (node_within around a) s (node_of_scope (nodes_of bytes) around a nest.0))
          ∙ ap (λ (l : List Node). node_within around a ∷ l) (again bytes (around ++ a ∷ []) path s nest.1))
      | inr other ↦ rw other (again bytes (around ++ a ∷ []) path s nest.1)
    ]

-- Guards of the package are kept, and stand for these.
pub record Keeps (bytes : List ℕ) (kept : List GuardPlace) (its : List Node) : Type 0 where
  pub guards : AreKept bytes kept
  pub again : guards_again bytes kept ≡ its

pub keeps : (bytes : List ℕ) (n : Node) → SpellsForest bytes (tree_of bytes) → Contains (nodes_of bytes) n → Keeps bytes (kept_guards n) (guards n)
keeps bytes n s within =
    let nest = path_nests bytes n within in
    record { guards = All-from_recursion (λ guard. IsKept bytes guard) (kept_guards n) (are_kept bytes [] n.path s nest); again = again bytes [] n.path s nest }

-- ---- what the index has at a place

-- One of these nodes is of the kind, and stands at the place.
pub record IsKindAt (is : Node → Bool) (ns : List Node) (place : ℕ) (n : Node) : Type 0 where
  pub within : Contains ns n
  pub holds : is n ≡ true
  pub placed : n.place ≡ place

pub find_within : (is : Node → Bool) (ns : List Node) (place : ℕ) (n : Node) → kind_at is ns place ≡ Some n → IsKindAt is ns place n
find_within is [] place n e = absurd cc
find_within is (m ∷ ns) place n e = elim (cases_Bool (is m && eqb m.place place)) [
  | inl here ↦
      let same : m ≡ n = cc (sym (cond-true (is m && eqb m.place place) (Some m) (kind_at is ns place) here) ∙ e) in
      let both = and_parts (is m) (eqb m.place place) here in
      record { within = (0, omega arith, same); holds = ap is (sym same) ∙ both.0; placed = ap (λ (p : Node). p.place) (sym same) ∙ eqb-true m.place place both.1 }
  | inr later ↦
      let its = find_within is ns place n (sym (cond-false (is m && eqb m.place place) (Some m) (kind_at is ns place) later) ∙ e) in
      record { within = further m ns n its.within; holds = its.holds; placed = its.placed }
]

-- ---- what is looked up at the place of a form, a statement or an option

indexed_here : (ns : List Node) (low high : ℕ) (n : Node) (k : ℕ) → Within low high ns → k < length ns → get_or ns k n ≡ n → is_indexed n ≡ true → indexed_at ns n.place ≡ Some n
indexed_here [] low high n k w lt e is = absurd (omega arith)
indexed_here (m ∷ ns) low high n zero w lt e is =
    let same : m ≡ n = e in
    let here : is_indexed m && eqb m.place n.place ≡ true = and_from _ _ (ap is_indexed same ∙ is) (eq-eqb m.place n.place (ap (λ (p : Node). p.place) same)) in
    cond-true (is_indexed m && eqb m.place n.place) (Some m) (indexed_at ns n.place) here ∙ ap (λ (p : Node). Some p) same
indexed_here (m ∷ ns) low high n (suc k) w lt e is =
    let later : m.place + 1 ≤ n.place = above ns (m.place + 1) high n k w.1 (omega arith) e in
    let other : is_indexed m && eqb m.place n.place ≡ false = and_right (is_indexed m) _ (ne_eqb m.place n.place (λ same. omega arith)) in
    cond-false (is_indexed m && eqb m.place n.place) (Some m) (indexed_at ns n.place) other ∙ indexed_here ns (m.place + 1) high n k w.1 (omega arith) e is

own_node : (bytes : List ℕ) (n : Node) → SpellsForest bytes (tree_of bytes) → Contains (nodes_of bytes) n → is_indexed n ≡ true → indexed_at (nodes_of bytes) n.place ≡ Some n
own_node bytes n s c is = indexed_here (nodes_of bytes) 4 (4 + length (flat (tree_of bytes))) n c.0 (nodes_within (tree_of bytes) 4 [] s.are_nodes) c.1 c.2 is

pub own_guards : (bytes : List ℕ) (n : Node) → SpellsForest bytes (tree_of bytes) → Contains (nodes_of bytes) n → is_indexed n ≡ true → guards_of_indexed (nodes_of bytes) n.place ≡ guards n
own_guards bytes n s c is = ap (λ (o : Option Node). or_none (option_map guards o)) (own_node bytes n s c is)

pub own_lock : (bytes : List ℕ) (n : Node) → SpellsForest bytes (tree_of bytes) → Contains (nodes_of bytes) n → is_indexed n ≡ true → lock_of_indexed (nodes_of bytes) n.place ≡ first_lock (nodes_of bytes) n
own_lock bytes n s c is = ap (entry_of (first_lock (nodes_of bytes))) (own_node bytes n s c is)

-- ---- the statements of a form

kept_first : (m : Node) (xs ns : List Node) (n : Node) → (Contains xs n → Contains ns n) → Contains (m ∷ xs) n → Contains (m ∷ ns) n
kept_first m xs ns n later (zero, lt, e) = (0, omega arith, e)
kept_first m xs ns n later (suc k, lt, e) = further m ns n (later (k, omega arith, e))

pub kept : (is : Node → Bool) (ns : List Node) (n : Node) → Contains (filter is ns) n → Contains ns n
kept is [] n (k, lt, e) = absurd (omega arith)
kept is (m ∷ ns) n w = elim (cases_Bool (is m)) [
  | inl holds ↦ kept_first m (filter is ns) ns n (kept is ns n) (subst (λ (l : List Node). Contains l n) (cond-true (is m) (m ∷ filter is ns) (filter is ns) holds) w)
  | inr fails ↦ further m ns n (kept is ns n (subst (λ (l : List Node). Contains l n) (cond-false (is m) (m ∷ filter is ns) (filter is ns) fails) w))
]

pub statements_of : (bytes : List ℕ) (form : Node) → SpellsForest bytes (tree_of bytes) → IsNodeOf bytes form → AreNodesOf bytes (statements form)
statements_of bytes form s is = λ i d lt.
    let within = below_within (tree_of bytes) 4 [] form (get_or (statements form) i d) (contains_found (nodes_of bytes) form.place form is) (kept is_statement (below form) _ (Contains-get_or (statements form) i d lt)) in
    is_found bytes (tree_of bytes) (get_or (statements form) i d) s within
