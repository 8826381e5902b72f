-- Where a node ends, and where those behind it stand.
use Rattle.std.proofs.Common.{◌≡◌, ◌⊎◌, ℕ, zero, suc, ◌+◌, ◌<◌, ◌≤◌, true, false, List, [], ◌∷◌, ◌++◌, length, refl, sym, ap, subst, arith, inl, inr}
use Rattle.std.specs.Prelude.{Contains}
use Rattle.std.proofs.lemmas.Bool.{cases_Bool}
use Rattle.std.proofs.lemmas.List.Elements.{Contains-append_cases, Contains-append_right}
use Rattle.ifr_opcodes.specs.Opcode.{has_scope}
use Rattle.ifr_opcodes.specs.Forest.{Forest, none, node, flat, AreNodes, Mark, Ancestor, Node, as_ancestor, nodes_at, below}
use Rattle.ifr_opcodes.specs.code.Marks.{mark}
use Rattle.ifr_opcodes.proofs.ForestLemmas.{takes}
use Rattle.ifr_expr.specs.Trees.{siblings}
use Rattle.ifr_nodes.specs.Nodes.{end_of}
use Rattle.ifr_nodes.proofs.ViewLemmas.{further}

-- A node stands inside of the bytes from one place up to another.
pub record Inside (from to : ℕ) (n : Node) : Type 0 where
  pub low : from ≤ n.place
  pub some : n.place < end_of n
  pub high : end_of n ≤ to
  pub are_nodes : AreNodes (node n.op n.children none)

wider : (n : Node) (low high low' high' : ℕ) → Inside low high n → low' ≤ low → high ≤ high' → Inside low' high' n
wider n low high low' high' i l h = record { low = omega (arith, i.low); some = i.some; high = omega (arith, i.high); are_nodes = i.are_nodes }

pub are_inside : (f : Forest) (at : ℕ) (path : List Ancestor) (n : Node) → AreNodes f → Contains (nodes_at at path f) n → Inside at (at + length (flat f)) n
are_inside none at path n h (k, lt, e) = absurd (omega arith)
are_inside (node op children rest) at path n h (zero, lt, e) =
    let here : Node = record { place = at; op = op; path = path; children = children } in
    let size = takes op children rest h in
    let long : 2 ≤ length op = h.0.whole.long in
    subst (Inside at (at + length (flat (node op children rest)))) e (record { low = omega arith; some = omega (arith, size.0, long); high = omega (arith, size.1); are_nodes = (h.0, (h.1.0, tt)) })
are_inside (node op children rest) at path n h (suc k, lt, e) =
    let here : Node = record { place = at; op = op; path = path; children = children } in
    let behind = at + length (flat (node op children none)) in
    let size = takes op children rest h in
    elim (Contains-append_cases (nodes_at (at + length op) (path ++ as_ancestor here ∷ []) children) (nodes_at behind path rest) n (k, omega arith, e)) [
      | inl w ↦ wider n (at + length op) (at + length op + length (flat children)) at (at + length (flat (node op children rest))) (are_inside children (at + length op) (path ++ as_ancestor here ∷ []) n h.1.0 w) (omega arith) (omega (arith, size.0, size.1))
      | inr w ↦ wider n behind (behind + length (flat rest)) at (at + length (flat (node op children rest))) (are_inside rest behind path n h.1.1 w) (omega arith) (omega (arith, size.1))
    ]

-- A node at a greater place than another is below it, or stands behind its end.
pub below_or_behind : (f : Forest) (at : ℕ) (path : List Ancestor) (n m : Node) → AreNodes f → Contains (nodes_at at path f) n → Contains (nodes_at at path f) m → n.place < m.place → Contains (below n) m ⊎ (end_of n ≤ m.place)
below_or_behind none at path n m h (k, lt, e) v less = absurd (omega arith)
below_or_behind (node op children rest) at path n m h (zero, lt, e) (zero, lt', e') less = absurd (omega (arith, less, ap (λ (p : Node). p.place) e, ap (λ (p : Node). p.place) e'))
below_or_behind (node op children rest) at path n m h (zero, lt, e) (suc j, lt', e') less =
    let here : Node = record { place = at; op = op; path = path; children = children } in
    let behind = at + length (flat (node op children none)) in
    subst (λ (p : Node). Contains (below p) m ⊎ (end_of p ≤ m.place)) e
    (elim (Contains-append_cases (below here) (nodes_at behind path rest) m (j, omega arith, e')) [ inl w ↦ inl w | inr w ↦ inr (are_inside rest behind path m h.1.1 w).low ])
below_or_behind (node op children rest) at path n m h (suc k, lt, e) (zero, lt', e') less =
    let here : Node = record { place = at; op = op; path = path; children = children } in
    let behind = at + length (flat (node op children none)) in
    let entered = path ++ as_ancestor here ∷ [] in
    let first : at ≡ m.place = ap (λ (p : Node). p.place) e' in
    absurd (elim (Contains-append_cases (nodes_at (at + length op) entered children) (nodes_at behind path rest) n (k, omega arith, e)) [
      | inl w ↦ omega (arith, less, first, (are_inside children (at + length op) entered n h.1.0 w).low)
      | inr w ↦ omega (arith, less, first, (are_inside rest behind path n h.1.1 w).low)
    ])
below_or_behind (node op children rest) at path n m h (suc k, lt, e) (suc j, lt', e') less =
    let here : Node = record { place = at; op = op; path = path; children = children } in
    let behind = at + length (flat (node op children none)) in
    let entered = path ++ as_ancestor here ∷ [] in
    let its = nodes_at (at + length op) entered children in
    let after = nodes_at behind path rest in
    let size = takes op children rest h in
    elim (Contains-append_cases its after n (k, omega arith, e)) [
      | inl w ↦
          elim (Contains-append_cases its after m (j, omega arith, e')) [
            | inl v ↦ below_or_behind children (at + length op) entered n m h.1.0 w v less
            | inr v ↦ inr (omega (arith, size.0, (are_inside children (at + length op) entered n h.1.0 w).high, (are_inside rest behind path m h.1.1 v).low))
          ]
      | inr w ↦
          elim (Contains-append_cases its after m (j, omega arith, e')) [
            | inl v ↦
                let i = are_inside children (at + length op) entered m h.1.0 v in
                absurd (omega (arith, less, size.0, i.some, i.high, (are_inside rest behind path n h.1.1 w).low))
            | inr v ↦ below_or_behind rest behind path n m h.1.1 w v less
          ]
    ]

-- A node of a forest is one of its first level, or stands behind one of these, inside of its scope.
pub record IsAtOrIn (f : Forest) (at : ℕ) (path : List Ancestor) (n : Node) : Type 0 where
  pub first : Mark
  pub within : Contains (siblings at f) first
  pub where_it_is : ((first ≡ mark n) × (n.path ≡ path)) ⊎ ((first.place < n.place) × (has_scope first.op ≡ true))

nothing_in : (op : List ℕ) (children : Forest) (at : ℕ) (path : List Ancestor) (n : Node) → (has_scope op ≡ false → children ≡ none) → Contains (nodes_at at path children) n → has_scope op ≡ true
nothing_in op children at path n leaf (k, lt, e) = elim (cases_Bool (has_scope op)) [
  | inl scoped ↦ scoped
  | inr bare ↦ absurd (omega (arith, lt, ap (λ (f : Forest). length (nodes_at at path f)) (leaf bare)))
]

pub at_or_in : (f : Forest) (at : ℕ) (path : List Ancestor) (n : Node) → AreNodes f → Contains (nodes_at at path f) n → IsAtOrIn f at path n
at_or_in none at path n h (k, lt, e) = absurd (omega arith)
at_or_in (node op children rest) at path n h (zero, lt, e) = record {
  first = record { place = at; op = op };
  within = (0, omega arith, refl);
  where_it_is = inl (ap mark e, sym (ap (λ (p : Node). p.path) e));
}
at_or_in (node op children rest) at path n h (suc k, lt, e) =
    let here : Node = record { place = at; op = op; path = path; children = children } in
    let behind = at + length (flat (node op children none)) in
    let entered = path ++ as_ancestor here ∷ [] in
    let long : 2 ≤ length op = h.0.whole.long in
    elim (Contains-append_cases (nodes_at (at + length op) entered children) (nodes_at behind path rest) n (k, omega arith, e)) [
      | inl w ↦ record {
        first = record { place = at; op = op };
        within = (0, omega arith, refl);
        where_it_is = inr (omega (arith, long, (are_inside children (at + length op) entered n h.1.0 w).low), nothing_in op children (at + length op) entered n h.0.leaf w);
      }
      | inr w ↦ let r = at_or_in rest behind path n h.1.1 w in record { first = r.first; within = further (record { place = at; op = op }) (siblings behind rest) r.first r.within; where_it_is = r.where_it_is }
    ]

-- Each opcode of its first level is that of a node.
pub is_node_of : (f : Forest) (at : ℕ) (path : List Ancestor) (m : Mark) → Contains (siblings at f) m → (n : Node) × Contains (nodes_at at path f) n × (mark n ≡ m) × (n.path ≡ path)
is_node_of none at path m (k, lt, e) = absurd (omega arith)
is_node_of (node op children rest) at path m (zero, lt, e) = (record { place = at; op = op; path = path; children = children }, (0, omega arith, refl), e, refl)
is_node_of (node op children rest) at path m (suc k, lt, e) =
    let here : Node = record { place = at; op = op; path = path; children = children } in
    let behind = at + length (flat (node op children none)) in
    let its = nodes_at (at + length op) (path ++ as_ancestor here ∷ []) children in
    let after = nodes_at behind path rest in
    let r = is_node_of rest behind path m (k, omega arith, e) in
    (r.0, further here (its ++ after) r.0 (Contains-append_right its after r.0 r.1), r.2, r.3)

-- They stand inside of its bytes.
pub siblings_inside : (f : Forest) (at : ℕ) (m : Mark) → AreNodes f → Contains (siblings at f) m → (at ≤ m.place) × (m.place < at + length (flat f))
siblings_inside f at m h within =
    let n = is_node_of f at [] m within in
    let i = are_inside f at [] n.0 h n.1 in
    let same : n.0.place ≡ m.place = ap (λ (x : Mark). x.place) n.2 in
    (omega (arith, i.low, same), omega (arith, i.some, i.high, same))
