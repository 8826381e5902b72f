-- The nodes of a checked package are found at their places.
use Rattle.std.proofs.Common.{◌≡◌, eqb, ℕ, zero, suc, ◌+◌, true, Option, Some, None, List, [], ◌∷◌, ◌++◌, length, get_or, map, refl, sym, ap, ◌∙◌, subst, inl, inr, arith}
use Rattle.std.specs.Prelude.{Contains, is_some}
use Rattle.std.proofs.lemmas.List.Elements.{Contains-append_cases, Contains-append_left, Contains-append_right, Contains-get_or}
use Rattle.std.proofs.lemmas.Bool.{cases_Bool, cond-true, cond-false}
use Rattle.ifr_opcodes.specs.Forest.{Forest, none, node, flat, Mark, Ancestor, Node, as_ancestor, nodes_at, below, node_at, SpellsForest}
use Rattle.ifr_opcodes.specs.code.Marks.{mark}
use Rattle.ifr_opcodes.specs.Opcode.{IsWhole}
use Rattle.ifr_opcodes.specs.Reading.{tree_of}
use Rattle.ifr_opcodes.specs.code.Marks.{mark_at}
use Rattle.ifr_nodes.specs.Nodes.{nodes_of}
use Rattle.ifr_nodes.specs.code.Checked.{IsAt, AreAt, or_empty, node_in, has_node}
use Rattle.ifr_nodes.specs.code.Visits.{under}
use Rattle.ifr_nodes.proofs.PlaceLemmas.{is_found, found_place, stands_at}
use Rattle.ifr_nodes.proofs.WalkLemmas.{whole_there, marked_node}

pub further : {X : Type 0} (x : X) (xs : List X) (m : X) → Contains xs m → Contains (x ∷ xs) m
further x xs m (k, lt, e) = (suc k, omega arith, e)

-- the node that is found at its place
pub node_in_place : (bytes : List ℕ) (n : Node) → SpellsForest bytes (tree_of bytes) → Contains (nodes_of bytes) n → node_in bytes n.place ≡ n
unfolding node_in
node_in_place bytes n s within = ap or_empty (is_found bytes (tree_of bytes) n s within)

pub is_at : (bytes : List ℕ) (n : Node) → SpellsForest bytes (tree_of bytes) → Contains (nodes_of bytes) n → IsAt bytes n.place n.op
is_at bytes n s within =
    let same = node_in_place bytes n s within in
    record { there = ap is_some (is_found bytes (tree_of bytes) n s within); placed = ap (λ (p : Node). p.place) same; opcode = ap (λ (p : Node). p.op) same }

pub contains_found : (ns : List Node) (place : ℕ) (n : Node) → node_at ns place ≡ Some n → Contains ns n
contains_found [] place n e = absurd cc
contains_found (m ∷ ns) place n e = elim (cases_Bool (eqb m.place place)) [
  | inl here ↦ let same : m ≡ n = cc (sym (cond-true (eqb m.place place) (Some m) (node_at ns place) here) ∙ e) in (0, omega arith, same)
  | inr later ↦ further m ns n (contains_found ns place n (sym (cond-false (eqb m.place place) (Some m) (node_at ns place) later) ∙ e))
]

pub some_there : (found : Option Node) → is_some found ≡ true → (n : Node) × (found ≡ Some n)
some_there None e = absurd (cc)
some_there (Some n) e = (n, refl)

-- the node where one stands
pub node_there : (bytes : List ℕ) (place : ℕ) (op : List ℕ) → SpellsForest bytes (tree_of bytes) → IsAt bytes place op
    → (n : Node) × (node_at (nodes_of bytes) place ≡ Some n) × Contains (nodes_of bytes) n × (node_in bytes place ≡ n)
unfolding node_in
node_there bytes place op s at =
    let found = some_there (node_at (nodes_of bytes) place) at.there in
    (found.0, found.1, contains_found (nodes_of bytes) place found.0 found.1, ap or_empty found.1)

-- the nodes below a node are nodes of the forest
pub below_within : (f : Forest) (at : ℕ) (path : List Ancestor) (n m : Node) → Contains (nodes_at at path f) n → Contains (below n) m → Contains (nodes_at at path f) m
below_within none at path n m (k, lt, e) inner = absurd (omega arith)
below_within (node op children rest) at path n m (zero, lt, e) inner =
    let behind = at + length (flat (node op children none)) in
    let here : Node = record { place = at; op = op; path = path; children = children } in
    further here _ m (Contains-append_left (nodes_at (at + length op) (path ++ as_ancestor here ∷ []) children) (nodes_at behind path rest) m (subst (λ (p : Node). Contains (below p) m) (sym e) inner))
below_within (node op children rest) at path n m (suc k, lt, e) inner =
    let behind = at + length (flat (node op children none)) in
    let here : Node = record { place = at; op = op; path = path; children = children } in
    let entered = path ++ as_ancestor here ∷ [] in
    let its = nodes_at (at + length op) entered children in
    let after = nodes_at behind path rest in
    further here (its ++ after) m (elim (Contains-append_cases its after n (k, omega arith, e)) [
      | inl w ↦ Contains-append_left its after m (below_within children (at + length op) entered n m w inner)
      | inr w ↦ Contains-append_right its after m (below_within rest behind path n m w inner)
    ])

-- nodes of the package, each found at its place
pub all_found : (bytes : List ℕ) (ns : List Node) → SpellsForest bytes (tree_of bytes) → ((n : Node) → Contains ns n → Contains (nodes_of bytes) n) → map (λ n. node_in bytes n.place) ns ≡ ns
all_found bytes [] s within = refl
all_found bytes (n ∷ ns) s within =
    ap (λ (p : Node). p ∷ map (λ n. node_in bytes n.place) ns) (node_in_place bytes n s (within n (0, omega arith, refl))) ∙ ap (λ (l : List Node). n ∷ l) (all_found bytes ns s (λ m w. within m (further n ns m w)))

pub are_at : (bytes : List ℕ) (ns : List Node) → SpellsForest bytes (tree_of bytes) → ((n : Node) → Contains ns n → Contains (nodes_of bytes) n) → AreAt bytes ns
are_at bytes ns s within = λ i d lt. is_at bytes (get_or ns i d) s (within (get_or ns i d) (Contains-get_or ns i d lt))

-- ---- the nodes of a walk inside of a node

contains_under : (path : List Ancestor) (ns : List Node) (n : Node) → Contains ns n → Contains (map (under path) ns) (under path n)
contains_under path [] n (k, lt, e) = absurd (omega arith)
contains_under path (m ∷ ns) n (zero, lt, e) = (0, omega arith, ap (under path) e)
contains_under path (m ∷ ns) n (suc k, lt, e) = further (under path m) (map (under path) ns) (under path n) (contains_under path ns n (k, omega arith, e))

pub all_under : (bytes : List ℕ) (path : List Ancestor) (ns : List Node) → SpellsForest bytes (tree_of bytes) → ((n : Node) → Contains (map (under path) ns) n → Contains (nodes_of bytes) n)
    → map (λ n. node_in bytes n.place) ns ≡ map (under path) ns
all_under bytes path [] s within = refl
all_under bytes path (n ∷ ns) s within =
    ap (λ (p : Node). p ∷ map (λ n. node_in bytes n.place) ns) (node_in_place bytes (under path n) s (within (under path n) (0, omega arith, refl)))
    ∙ ap (λ (l : List Node). under path n ∷ l) (all_under bytes path ns s (λ m w. within m (further (under path n) (map (under path) ns) m w)))

pub are_under : (bytes : List ℕ) (path : List Ancestor) (ns : List Node) → SpellsForest bytes (tree_of bytes) → ((n : Node) → Contains (map (under path) ns) n → Contains (nodes_of bytes) n) → AreAt bytes ns
are_under bytes path ns s within = λ i d lt.
    let n = get_or ns i d in
    is_at bytes (under path n) s (within (under path n) (contains_under path ns n (Contains-get_or ns i d lt)))

-- ---- the opcode at a place where a node stands

pub stands_whole : (bytes : List ℕ) (place : ℕ) → SpellsForest bytes (tree_of bytes) → has_node bytes place ≡ true → IsWhole (mark_at bytes place).op
stands_whole bytes place s there = let found = some_there (node_at (nodes_of bytes) place) there in whole_there bytes place found.0 s found.1

pub stands_so : (bytes : List ℕ) (place at : ℕ) (op : List ℕ) → SpellsForest bytes (tree_of bytes) → has_node bytes place ≡ true → record { place = at; op = op } ≡ mark_at bytes place → IsAt bytes at op
stands_so bytes place at op s there e =
    let found = some_there (node_at (nodes_of bytes) place) there in
    let within = contains_found (nodes_of bytes) place found.0 found.1 in
    let here : found.0.place ≡ place = found_place (nodes_of bytes) place found.0 found.1 in
    let marked : mark_at bytes place ≡ mark found.0 = ap (mark_at bytes) (sym here) ∙ marked_node bytes found.0 (stands_at bytes (tree_of bytes) place found.0 s found.1) in
    let same : record { place = at; op = op } ≡ mark found.0 = e ∙ marked in
    subst (λ (m : Mark). IsAt bytes m.place m.op) (sym same) (is_at bytes found.0 s within)
