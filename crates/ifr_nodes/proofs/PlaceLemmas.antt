-- Where the nodes of a forest stand.
use Rattle.std.proofs.Common.{sym, ◌∙◌, subst, refl, ◌≡◌, ℕ, zero, suc, ◌+◌, ◌<◌, ◌≤◌, max, true, false, cond, eqb, List, [], ◌∷◌, ◌++◌, append_assoc, length, get_or, drop, ap, arith, inl, inr, ◌⊎◌, Bool, Some, None}
use Rattle.std.specs.List.{concat}
use Rattle.std.specs.Prelude.{Contains, filter}
use Rattle.std.proofs.lemmas.List.{append-nil, length-append, length-drop, drop-drop, drop_at}
use Rattle.std.proofs.lemmas.Bool.{eq-eqb, eqb-true, ne_eqb, cases_Bool}
use Rattle.ifr_opcodes.specs.Opcode.{has_scope, end}
use Rattle.ifr_opcodes.specs.Forest.{Forest, none, node, opcodes, flat, height, AreNodes, SpellsForest, Ancestor, Node, as_ancestor, nodes_at, nodes, below, node_at, places}
use Rattle.ifr_nodes.specs.Nodes.{is_statement, statements}
use Rattle.ifr_opcodes.proofs.OpcodeLemmas.{AllWhole, AllWhole-back, concat-append}
use Rattle.ifr_opcodes.proofs.ForestLemmas.{all_whole, opcodes_scoped, takes}

-- the places rise, from low on, and stay below high
abbrev pub Within : ℕ → ℕ → List Node → Type 0
Within low high [] = low ≤ high
Within low high (n ∷ ns) = (low ≤ n.place) × Within (n.place + 1) high ns

wider : (ns : List Node) (low high low' high' : ℕ) → Within low high ns → low' ≤ low → high ≤ high' → Within low' high' ns
wider [] low high low' high' w l h = omega arith
wider (n ∷ ns) low high low' high' w l h = (omega (arith, w.0), wider ns (n.place + 1) high (n.place + 1) high' w.1 (omega arith) h)

Within-append : (xs ys : List Node) (low mid high : ℕ) → Within low mid xs → Within mid high ys → Within low high (xs ++ ys)
Within-append [] ys low mid high u v = wider ys mid high low high v u (omega arith)
Within-append (x ∷ xs) ys low mid high u v = (u.0, Within-append xs ys (x.place + 1) mid high u.1 v)

pub nodes_within : (f : Forest) (at : ℕ) (path : List Ancestor) → AreNodes f → Within at (at + length (flat f)) (nodes_at at path f)
nodes_within none at path h = omega arith
nodes_within (node op children rest) at path h =
    let size = takes op children rest h in
    let long : 2 ≤ length op = h.0.whole.long in
    let behind = at + length (flat (node op children none)) in
    let inner = wider (nodes_at (at + length op) (path ++ record { place = at; op = op; children = children } ∷ []) children) (at + length op) (at + length op + length (flat children)) (at + 1) behind
    (nodes_within children (at + length op) (path ++ record { place = at; op = op; children = children } ∷ []) h.1.0) (omega arith) (omega (arith, size.0)) in
    let outer = wider (nodes_at behind path rest) behind (behind + length (flat rest)) behind (at + length (flat (node op children rest))) (nodes_within rest behind path h.1.1) (omega arith) (omega (arith, size.1)) in
    (omega arith, Within-append (nodes_at (at + length op) (path ++ record { place = at; op = op; children = children } ∷ []) children) (nodes_at behind path rest) (at + 1) behind (at + length (flat (node op children rest))) inner outer)

pub above : (ns : List Node) (low high : ℕ) (n : Node) (k : ℕ) → Within low high ns → k < length ns → get_or ns k n ≡ n → low ≤ n.place
above [] low high n k w lt e = absurd (omega arith)
above (m ∷ ns) low high n zero w lt e = omega (arith, w.0, ap (λ (p : Node). p.place) e)
above (m ∷ ns) low high n (suc k) w lt e = omega (arith, w.0, above ns (m.place + 1) high n k w.1 (omega arith) e)

found_here : (ns : List Node) (low high : ℕ) (n : Node) (k : ℕ) → Within low high ns → k < length ns → get_or ns k n ≡ n → node_at ns n.place ≡ Some n
found_here [] low high n k w lt e = absurd (omega arith)
found_here (m ∷ ns) low high n zero w lt e =
    let here : eqb m.place n.place ≡ true = eq-eqb m.place n.place (ap (λ (p : Node). p.place) e) in
    rw here (ap (λ (p : Node). Some p) e)
found_here (m ∷ ns) low high n (suc k) w lt e =
    let later : m.place + 1 ≤ n.place = above ns (m.place + 1) high n k w.1 (omega arith) e in
    let not_here : eqb m.place n.place ≡ false = ne_eqb m.place n.place (λ same. omega arith) in
    rw not_here (found_here ns (m.place + 1) high n k w.1 (omega arith) e)

above_all : (ns : List Node) (low high k : ℕ) → Within low high ns → k < length ns → low ≤ get_or (places ns) k 0
above_all [] low high k w lt = absurd (omega arith)
above_all (m ∷ ns) low high zero w lt = w.0
above_all (m ∷ ns) low high (suc k) w lt = omega (arith, w.0, above_all ns (m.place + 1) high k w.1 (omega arith))

-- The places of nodes that lie between two places rise.
pub rise : (ns : List Node) (low high i j : ℕ) → Within low high ns → i < j → j < length ns → get_or (places ns) i 0 < get_or (places ns) j 0
rise [] low high i j w lt le = absurd (omega arith)
rise (m ∷ ns) low high zero zero w lt le = absurd (omega arith)
rise (m ∷ ns) low high zero (suc j) w lt le = omega (arith, above_all ns (m.place + 1) high j w.1 (omega arith))
rise (m ∷ ns) low high (suc i) zero w lt le = absurd (omega arith)
rise (m ∷ ns) low high (suc i) (suc j) w lt le = rise ns (m.place + 1) high i j w.1 (omega arith) (omega arith)

-- The places of a package's nodes rise.
pub places_rise : (bytes : List ℕ) (f : Forest) (i j : ℕ) → SpellsForest bytes f → i < j → j < length (nodes f) → get_or (places (nodes f)) i 0 < get_or (places (nodes f)) j 0
places_rise bytes f i j s lt le = rise (nodes f) 4 (4 + length (flat f)) i j (nodes_within f 4 [] s.are_nodes) lt le

-- A node is found at its place.
pub is_found : (bytes : List ℕ) (f : Forest) (n : Node) → SpellsForest bytes f → Contains (nodes f) n → node_at (nodes f) n.place ≡ Some n
is_found bytes f n s c = found_here (nodes f) 4 (4 + length (flat f)) n c.0 (nodes_within f 4 [] s.are_nodes) c.1 c.2

pub found_place : (ns : List Node) (place : ℕ) (n : Node) → node_at ns place ≡ Some n → n.place ≡ place
found_place [] place n e = absurd cc
found_place (m ∷ ns) place n e = go (eqb m.place place) refl (found_place ns place n) e
  where
    go : (b : Bool) → eqb m.place place ≡ b → (node_at ns place ≡ Some n → n.place ≡ place) → cond b (Some m) (node_at ns place) ≡ Some n → n.place ≡ place
    go true h later e = let same : m ≡ n = cc in ap (λ (p : Node). p.place) (sym same) ∙ eqb-true m.place place h
    go false h later e = later e

found_either : (xs ys : List Node) (place : ℕ) (n : Node) → node_at (xs ++ ys) place ≡ Some n → (node_at xs place ≡ Some n) ⊎ (node_at ys place ≡ Some n)
found_either [] ys place n e = inr e
found_either (m ∷ xs) ys place n e = go (eqb m.place place) (found_either xs ys place n) e
  where
    go : (b : Bool) → (node_at (xs ++ ys) place ≡ Some n → (node_at xs place ≡ Some n) ⊎ (node_at ys place ≡ Some n)) → cond b (Some m) (node_at (xs ++ ys) place) ≡ Some n
        → (cond b (Some m) (node_at xs place) ≡ Some n) ⊎ (node_at ys place ≡ Some n)
    go true later e = inl e
    go false later e = later e

found_only : (m : Node) (place : ℕ) (n : Node) → node_at (m ∷ []) place ≡ Some n → n ≡ m
found_only m place n e = go (eqb m.place place) e
  where
    go : (b : Bool) → cond b (Some m) None ≡ Some n → n ≡ m
    go true e = cc
    go false e = absurd cc

found_nowhere : (place : ℕ) (n : Node) → node_at [] place ≡ Some n → ⊥
found_nowhere place n e = cc

-- A node's opcodes, with those of its children, stand among a forest's at its place.
pub record StandsIn (f : Forest) (at : ℕ) (n : Node) : Type 0 where
  pub before : List (List ℕ)
  pub behind : List (List ℕ)
  pub parts : opcodes f ≡ before ++ (opcodes (node n.op n.children none) ++ behind)
  pub place : n.place ≡ at + length (concat before)
  pub are_nodes : AreNodes (node n.op n.children none)
  pub lower : height (node n.op n.children none) ≤ height f

opcodes_apart : (op : List ℕ) (children rest : Forest) → opcodes (node op children rest) ≡ opcodes (node op children none) ++ opcodes rest
opcodes_apart op children rest = go (has_scope op)
  where
    go : (b : Bool) → op ∷ (cond b (opcodes children ++ end ∷ []) [] ++ opcodes rest) ≡ (op ∷ (cond b (opcodes children ++ end ∷ []) [] ++ [])) ++ opcodes rest
    go true = ap (λ (l : List (List ℕ)). op ∷ (l ++ opcodes rest)) (sym (append-nil (opcodes children ++ end ∷ [])))
    go false = refl

first_stands : (op : List ℕ) (children rest : Forest) (at : ℕ) (n : Node) → AreNodes (node op children rest) → n.op ≡ op → n.children ≡ children → n.place ≡ at → StandsIn (node op children rest) at n
first_stands op children rest at n h o c p = record {
  before = [];
  behind = opcodes rest;
  parts = opcodes_apart op children rest ∙ ap (λ (f : Forest). opcodes f ++ opcodes rest) same;
  place = omega arith;
  are_nodes = subst AreNodes same (h.0, (h.1.0, tt));
  lower = subst (λ (f : Forest). height f ≤ height (node op children rest)) same (omega arith);
}
  where
    same : node op children none ≡ node n.op n.children none
    same = ap (λ (x : List ℕ). node x children none) (sym o) ∙ ap (λ (f : Forest). node n.op f none) (sym c)

inner_stands : (op : List ℕ) (children rest : Forest) (at : ℕ) (n : Node) → has_scope op ≡ true → StandsIn children (at + length op) n → StandsIn (node op children rest) at n
inner_stands op children rest at n s i =
    let its = opcodes (node n.op n.children none) in
    let all : opcodes (node op children rest) ≡ op ∷ (opcodes children ++ (end ∷ opcodes rest)) =
    sym (append-nil (opcodes (node op children rest))) ∙ opcodes_scoped op children rest [] s ∙ ap (λ (l : List (List ℕ)). op ∷ (opcodes children ++ (end ∷ l))) (append-nil (opcodes rest)) in
    let high : height children ≤ height (node op children rest) = subst (λ (b : Bool). height children ≤ max (cond b (height children + 1) 0) (height rest)) (sym s) (omega arith) in
    record {
      before = op ∷ i.before;
      behind = i.behind ++ end ∷ opcodes rest;
      parts = all ∙ ap (λ (l : List (List ℕ)). op ∷ (l ++ (end ∷ opcodes rest))) i.parts
          ∙ ap (λ (l : List (List ℕ)). op ∷ l) (append_assoc i.before (its ++ i.behind) (end ∷ opcodes rest) ∙ ap (λ (l : List (List ℕ)). i.before ++ l) (append_assoc its i.behind (end ∷ opcodes rest)));
      place = omega (arith, i.place, length-append op (concat i.before));
      are_nodes = i.are_nodes;
      lower = omega (arith, i.lower);
    }

outer_stands : (op : List ℕ) (children rest : Forest) (at : ℕ) (n : Node) → StandsIn rest (at + length (flat (node op children none))) n → StandsIn (node op children rest) at n
outer_stands op children rest at n i =
    let its = opcodes (node n.op n.children none) in
    let first = opcodes (node op children none) in
    record {
      before = first ++ i.before;
      behind = i.behind;
      parts = opcodes_apart op children rest ∙ ap (λ (l : List (List ℕ)). first ++ l) i.parts ∙ sym (append_assoc first i.before (its ++ i.behind));
      place = omega (arith, i.place, ap length (concat-append first i.before), length-append (concat first) (concat i.before));
      are_nodes = i.are_nodes;
      lower = omega (arith, i.lower);
    }

pub stands_in : (f : Forest) (at place : ℕ) (path : List Ancestor) (n : Node) → AreNodes f → node_at (nodes_at at path f) place ≡ Some n → StandsIn f at n
stands_in none at place path n h e = absurd cc
stands_in (node op children rest) at place path n h e =
    let m : Ancestor = record { place = at; op = op; children = children } in
    let inner = nodes_at (at + length op) (path ++ m ∷ []) children in
    let outer = nodes_at (at + length (flat (node op children none))) path rest in
    elim (found_either (record { place = at; op = op; path = path; children = children } ∷ []) (inner ++ outer) place n e) [
      | inl first ↦
          let p = found_only (record { place = at; op = op; path = path; children = children }) place n first in
          first_stands op children rest at n h (ap (λ (x : Node). x.op) p) (ap (λ (x : Node). x.children) p) (ap (λ (x : Node). x.place) p)
      | inr others ↦
          elim (found_either inner outer place n others) [
            | inl k ↦
                elim (cases_Bool (has_scope op)) [
                  | inl s ↦ inner_stands op children rest at n s (stands_in children (at + length op) place (path ++ m ∷ []) n h.1.0 k)
                  | inr s ↦ absurd (found_nowhere place n (ap (λ (f : Forest). node_at (nodes_at (at + length op) (path ++ m ∷ []) f) place) (sym (h.0.leaf s)) ∙ k))
                ]
            | inr k ↦ outer_stands op children rest at n (stands_in rest (at + length (flat (node op children none))) place path n h.1.1 k)
          ]
    ]

-- The bytes from a node's place on are those of the node and its children, and then others.
pub record StandsAt (bytes : List ℕ) (n : Node) : Type 0 where
  pub behind : List (List ℕ)
  pub spelled : drop n.place bytes ≡ concat (opcodes (node n.op n.children none) ++ behind)
  pub whole : AllWhole (opcodes (node n.op n.children none) ++ behind)
  pub are_nodes : AreNodes (node n.op n.children none)
  pub within : height (node n.op n.children none) ≤ 64

pub stands_at : (bytes : List ℕ) (f : Forest) (place : ℕ) (n : Node) → SpellsForest bytes f → node_at (nodes f) place ≡ Some n → StandsAt bytes n
stands_at bytes f place n s e =
    let i = stands_in f 4 place [] n s.are_nodes e in
    let those = opcodes (node n.op n.children none) ++ i.behind in
    record {
      behind = i.behind;
      spelled = ap (λ k. drop k bytes) i.place ∙ sym (drop-drop (length (concat i.before)) 4 bytes)
          ∙ ap (drop (length (concat i.before))) (s.spelled ∙ ap concat i.parts ∙ concat-append i.before those) ∙ drop_at (concat i.before) (concat those) (length (concat i.before)) refl;
      whole = AllWhole-back i.before those (subst AllWhole i.parts (all_whole f s.are_nodes));
      are_nodes = i.are_nodes;
      within = omega (arith, i.lower, s.within);
    }

-- where a node stands, in its bytes
pub node_stands : (bytes : List ℕ) (f : Forest) (n : Node) → SpellsForest bytes f → Contains (nodes f) n
    → (more : List ℕ) × (drop n.place bytes ≡ flat (node n.op n.children none) ++ more) × AreNodes (node n.op n.children none)
node_stands bytes f n s c =
    let i = stands_at bytes f n.place n s (is_found bytes f n s c) in
    (concat i.behind, i.spelled ∙ concat-append (opcodes (node n.op n.children none)) i.behind, i.are_nodes)

-- ---- how many nodes there are

few : (ns : List Node) (low high : ℕ) → Within low high ns → low + length ns ≤ high
few [] low high w = omega arith
few (n ∷ ns) low high w = omega (arith, w.0, few ns (n.place + 1) high w.1)

fewer : (is : Node → Bool) (ns : List Node) → length (filter is ns) ≤ length ns
fewer is [] = omega arith
fewer is (n ∷ ns) = elim (cases_Bool (is n)) [
  | inl e ↦ rw e (omega (arith, fewer is ns))
  | inr e ↦ rw e (omega (arith, fewer is ns))
]

pub few_statements : (bytes : List ℕ) (f : Forest) (n : Node) → SpellsForest bytes f → Contains (nodes f) n → length (statements n) + 2 ≤ length bytes
few_statements bytes f n s c =
    let stood = node_stands bytes f n s c in
    let h = stood.2 in
    let size = takes n.op n.children none h in
    let count = few (below n) (n.place + length n.op) _ (nodes_within n.children (n.place + length n.op) (n.path ++ as_ancestor n ∷ []) h.1.0) in
    let flat_here = ap length stood.1 ∙ length-append (flat (node n.op n.children none)) stood.0 in
    let long : 2 ≤ length n.op = h.0.whole.long in
    omega (arith, long, size.0, count, flat_here, length-drop n.place bytes, fewer is_statement (below n))
