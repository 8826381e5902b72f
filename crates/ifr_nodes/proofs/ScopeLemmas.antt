-- An ancestor of a node is a node whose own path is the part of the path before it.
use Rattle.std.proofs.Common.{◌≡◌, ℕ, zero, suc, ◌+◌, ◌<◌, true, false, None, List, [], ◌∷◌, ◌++◌, length, map, take, get_or, refl, sym, ap, ◌∙◌, subst, inl, inr, arith, append_assoc}
use Rattle.std.specs.Prelude.{Contains}
use Rattle.std.specs.List.{AllByRecursion, last_or}
use Rattle.std.proofs.lemmas.List.{append-nil}
use Rattle.std.proofs.lemmas.List.Elements.{All-tail, Contains-get_or, Contains-append_cases, Contains-append_left, Contains-append_right, filter-append}
use Rattle.ifr_opcodes.specs.Opcode.{number}
use Rattle.ifr_opcodes.specs.Fields.{question_id}
use Rattle.ifr_opcodes.specs.Forest.{Forest, none, node, flat, Mark, Ancestor, Node, as_ancestor, nodes_at, SpellsForest}
use Rattle.ifr_opcodes.specs.code.Marks.{mark}
use Rattle.ifr_opcodes.specs.code.Ops.{bytes_of}
use Rattle.ifr_opcodes.specs.Reading.{tree_of}
use Rattle.ifr_opcodes.specs.code.Marks.{ancestor_at}
use Rattle.ifr_opcodes.specs.Rows.{is_question_number}
use Rattle.ifr_nodes.specs.Nodes.{nodes_of, questions_among, id_or_0, this_among}
use Rattle.ifr_nodes.specs.Checked.{IsChecked}
use Rattle.ifr_nodes.specs.code.Checked.{IsAt, IsNodeOf, AreNodesOf, node_in}
use Rattle.ifr_nodes.specs.code.Scopes.{IsScope, AreScopes}
use Rattle.ifr_nodes.specs.code.Visits.{view}
use Rattle.ifr_nodes.specs.declared.walk.Visit.{Visit}
use Rattle.ifr_nodes.proofs.InnermostLemmas.{last_or-push}
use Rattle.ifr_nodes.proofs.NodeFactLemmas.{is_node}
use Rattle.ifr_nodes.proofs.PlaceLemmas.{is_found}
use Rattle.ifr_nodes.proofs.ViewLemmas.{is_at, node_in_place, further, contains_found}

-- One of these nodes, as what is around others, with those before it as its path.
pub record IsScopeOf (ns : List Node) (before : List Ancestor) (a : Ancestor) : Type 0 where
  pub node : Node
  pub within : Contains ns node
  pub is : as_ancestor node ≡ a
  pub path : node.path ≡ before

-- Each of a path is such a node, where these are before it.
abbrev pub Nest : List Node → List Ancestor → List Ancestor → Type 0
Nest ns before [] = Unit {0}
Nest ns before (a ∷ path) = IsScopeOf ns before a × Nest ns (before ++ a ∷ []) path

nest-push : (ns : List Node) (before path : List Ancestor) (a : Ancestor) → Nest ns before path → IsScopeOf ns (before ++ path) a → Nest ns before (path ++ a ∷ [])
nest-push ns before [] a nest last = (subst (λ (l : List Ancestor). IsScopeOf ns l a) (append-nil before) last, tt)
nest-push ns before (b ∷ path) a nest last = (nest.0, nest-push ns (before ++ b ∷ []) path a nest.1 (subst (λ (l : List Ancestor). IsScopeOf ns l a) (sym (append_assoc before (b ∷ []) path)) last))

-- each node's path nests, where the forest's path does
nests : (ns : List Node) (f : Forest) (at : ℕ) (path : List Ancestor) → Nest ns [] path → ((m : Node) → Contains (nodes_at at path f) m → Contains ns m)
    → (n : Node) → Contains (nodes_at at path f) n → Nest ns [] n.path
nests ns none at path nest within n (k, lt, e) = absurd (omega arith)
nests ns (node op children rest) at path nest within n (zero, lt, e) = subst (λ (p : Node). Nest ns [] p.path) e nest
nests ns (node op children rest) at path nest within n (suc k, lt, e) =
    let behind = at + length (flat (node op children none)) in
    let here : Node = record { place = at; op = op; path = path; children = children } in
    let entered = path ++ as_ancestor here ∷ [] in
    let its = nodes_at (at + length op) entered children in
    let after = nodes_at behind path rest in
    let scope : IsScopeOf ns path (as_ancestor here) = record { node = here; within = within here (0, omega arith, refl); is = refl; path = refl } in
    elim (Contains-append_cases its after n (k, omega arith, e)) [
      | inl w ↦ nests ns children (at + length op) entered (nest-push ns [] path (as_ancestor here) nest scope) (λ m v. within m (further here (its ++ after) m (Contains-append_left its after m v))) n w
      | inr w ↦ nests ns rest behind path nest (λ m v. within m (further here (its ++ after) m (Contains-append_right its after m v))) n w
    ]

pub path_nests : (bytes : List ℕ) (n : Node) → Contains (nodes_of bytes) n → Nest (nodes_of bytes) [] n.path
path_nests bytes n within = nests (nodes_of bytes) (tree_of bytes) 4 [] tt (λ m v. v) n within

-- an ancestor is one of these nodes
abbrev pub IsOf : List Node → Ancestor → Type 0
IsOf ns a = (m : Node) × Contains ns m × (as_ancestor m ≡ a)

nested : (ns : List Node) (around path : List Ancestor) → Nest ns around path → AllByRecursion (IsOf ns) path
nested ns around [] nest = tt
nested ns around (a ∷ path) nest = ((nest.0.node, nest.0.within, nest.0.is), nested ns (around ++ a ∷ []) path nest.1)

pub path_is_of : (bytes : List ℕ) (n : Node) → Contains (nodes_of bytes) n → AllByRecursion (IsOf (nodes_of bytes)) n.path
path_is_of bytes n within = nested (nodes_of bytes) [] n.path (path_nests bytes n within)

-- one in the middle of a path
nest_inner : (ns : List Node) (outer before after : List Ancestor) (a : Ancestor) → Nest ns outer (before ++ a ∷ after) → IsScopeOf ns (outer ++ before) a
nest_inner ns outer [] after a nest = subst (λ (l : List Ancestor). IsScopeOf ns l a) (sym (append-nil outer)) nest.0
nest_inner ns outer (b ∷ before) after a nest = subst (λ (l : List Ancestor). IsScopeOf ns l a) (append_assoc outer (b ∷ []) before) (nest_inner ns (outer ++ b ∷ []) before after a nest.1)

pub ancestor_node : (bytes : List ℕ) (n : Node) (before after : List Ancestor) (a : Ancestor) → SpellsForest bytes (tree_of bytes) → IsNodeOf bytes n → n.path ≡ before ++ a ∷ after
    → (m : Node) × IsNodeOf bytes m × (as_ancestor m ≡ a) × (m.path ≡ before)
ancestor_node bytes n before after a s is e =
    let nest = subst (Nest (nodes_of bytes) []) e (path_nests bytes n (contains_found (nodes_of bytes) n.place n is)) in
    let scope = nest_inner (nodes_of bytes) [] before after a nest in
    (scope.node, is_found bytes (tree_of bytes) scope.node s scope.within, scope.is, scope.path)

-- the one of the place that is the next after some of them
nest_at : (ns : List Node) (bytes : List ℕ) (before : List Ancestor) (places : List ℕ) (i : ℕ) → i < length places → Nest ns before (map (ancestor_at bytes) places)
    → IsScopeOf ns (before ++ map (ancestor_at bytes) (take i places)) (ancestor_at bytes (get_or places i 0))
nest_at ns bytes before [] i lt nest = absurd (omega arith)
nest_at ns bytes before (p ∷ places) zero lt nest = subst (λ (l : List Ancestor). IsScopeOf ns l (ancestor_at bytes p)) (sym (append-nil before)) nest.0
nest_at ns bytes before (p ∷ places) (suc i) lt nest =
    subst (λ (l : List Ancestor). IsScopeOf ns l (ancestor_at bytes (get_or places i 0))) (append_assoc before (ancestor_at bytes p ∷ []) (map (ancestor_at bytes) (take i places)))
    (nest_at ns bytes (before ++ ancestor_at bytes p ∷ []) places i (omega arith) nest.1)

-- such a node stands at its place in the package
stands_so : (bytes before : List ℕ) (place : ℕ) → SpellsForest bytes (tree_of bytes) → IsScopeOf (nodes_of bytes) (map (ancestor_at bytes) before) (ancestor_at bytes place) → IsScope bytes before place
stands_so bytes before place s scope =
    let n = scope.node in
    let here : n.place ≡ place = ap (λ (a : Ancestor). a.place) scope.is in
    let same : node_in bytes place ≡ n = ap (node_in bytes) (sym here) ∙ node_in_place bytes n s scope.within in
    let at = is_at bytes n s scope.within in
    record {
      there = rw here at at.there;
      is = ap as_ancestor same ∙ scope.is;
      path = ap (λ (m : Node). m.path) same ∙ scope.path;
    }

-- the places on a node's path
pub are_scopes : (bytes places : List ℕ) (n : Node) → SpellsForest bytes (tree_of bytes) → Contains (nodes_of bytes) n → n.path ≡ map (ancestor_at bytes) places → AreScopes bytes places
are_scopes bytes places n s within e = λ i lt.
    stands_so bytes (take i places) (get_or places i 0) s (nest_at (nodes_of bytes) bytes [] places i lt (subst (Nest (nodes_of bytes) []) e (path_nests bytes n within)))

-- the places around the node of a view are scopes
pub around_node : (bytes : List ℕ) (place : ℕ) (op places : List ℕ) → IsChecked bytes → IsAt bytes place op → (node_in bytes place).path ≡ map (ancestor_at bytes) places → AreScopes bytes places
around_node bytes place op places checked at e = are_scopes bytes places (node_in bytes place) checked.spelled (is_node bytes place op checked at) e

-- the path of a node goes on from that of the forest in which it stands
pub path_inside : (f : Forest) (at : ℕ) (path : List Ancestor) (m : Node) → Contains (nodes_at at path f) m → (inside : List Ancestor) × (m.path ≡ path ++ inside)
path_inside none at path m (k, lt, e) = absurd (omega arith)
path_inside (node op children rest) at path m (zero, lt, e) = ([], ap (λ (p : Node). p.path) (sym e) ∙ sym (append-nil path))
path_inside (node op children rest) at path m (suc k, lt, e) =
    let here : Ancestor = record { place = at; op = op; children = children } in
    let past = at + length (flat (node op children none)) in
    let its = nodes_at (at + length op) (path ++ here ∷ []) children in
    elim (Contains-append_cases its (nodes_at past path rest) m (k, omega arith, e)) [
      | inl in_its ↦
          let deeper = path_inside children (at + length op) (path ++ here ∷ []) m in_its in
          (here ∷ deeper.0, deeper.1 ∙ append_assoc path (here ∷ []) deeper.0)
      | inr after ↦ path_inside rest past path m after
    ]

-- ---- the innermost question

pub this-question : (path : List Ancestor) (a : Ancestor) → is_question_number (number a.op) ≡ true → this_among (path ++ a ∷ []) ≡ question_id a.op
this-question path a is =
    let last : questions_among (path ++ a ∷ []) ≡ questions_among path ++ a ∷ [] = filter-append (λ (b : Ancestor). is_question_number (number b.op)) path (a ∷ []) ∙ rw is refl in
    ap (λ (l : List Ancestor). id_or_0 (last_or None l)) last ∙ ap id_or_0 (last_or-push None (questions_among path) a)

pub this-other : (path : List Ancestor) (a : Ancestor) → is_question_number (number a.op) ≡ false → this_among (path ++ a ∷ []) ≡ this_among path
this-other path a other =
    let same : questions_among (path ++ a ∷ []) ≡ questions_among path = filter-append (λ (b : Ancestor). is_question_number (number b.op)) path (a ∷ []) ∙ rw other (append-nil (questions_among path)) in
    ap (λ (l : List Ancestor). id_or_0 (last_or None l)) same

-- ---- what a walk over the package meets

pub all_nodes : (bytes : List ℕ) → SpellsForest bytes (tree_of bytes) → AreNodesOf bytes (nodes_of bytes)
all_nodes bytes s = λ i d lt. is_found bytes (tree_of bytes) (get_or (nodes_of bytes) i d) s (Contains-get_or (nodes_of bytes) i d lt)

-- The node that is met next is one of the package, and so are those after it.
pub record IsMet (bytes : List ℕ) (visit : Visit) (n : Node) (rest : List Node) : Type 0 where
  pub is : node_in bytes visit.op.place ≡ n
  pub stands : IsAt bytes visit.op.place (bytes_of visit.op)
  pub within : Contains (nodes_of bytes) n
  pub others : AreNodesOf bytes rest

pub is_met : (bytes : List ℕ) (visit : Visit) (n : Node) (all rest : List Node) → SpellsForest bytes (tree_of bytes) → AreNodesOf bytes all → all ≡ n ∷ rest → view visit ≡ mark n → IsMet bytes visit n rest
is_met bytes visit n all rest s are e shown =
    let each = subst (AreNodesOf bytes) e are in
    let within = contains_found (nodes_of bytes) n.place n (each 0 n (omega arith)) in
    record {
      is = ap (λ (m : Mark). node_in bytes m.place) shown ∙ node_in_place bytes n s within;
      stands = subst (λ (m : Mark). IsAt bytes m.place m.op) (sym shown) (is_at bytes n s within);
      within = within;
      others = All-tail (λ m. IsNodeOf bytes m) n rest each;
    }
