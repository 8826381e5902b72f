-- The nodes inside of a node and those behind it.
use Rattle.std.proofs.Common.{◌≡◌, ◌⊎◌, ℕ, zero, suc, ◌+◌, ◌≤◌, nat_lt, List, [], ◌∷◌, ◌++◌, append_assoc, length, length-append, refl, sym, ap, ◌∙◌, subst, inl, inr, arith}
use Rattle.std.specs.Prelude.{Contains, filter}
use Rattle.std.proofs.lemmas.List.Elements.{Contains-append_cases, Contains-append_left, Contains-append_right}
use Rattle.hii_bytes.specs.code.FirstFaults.{Rise}
use Rattle.ifr_opcodes.specs.Forest.{Forest, none, node, flat, Ancestor, Node, as_ancestor, nodes_at, below, SpellsForest}
use Rattle.ifr_opcodes.specs.Reading.{tree_of}
use Rattle.ifr_nodes.specs.Nodes.{nodes_of}
use Rattle.ifr_index.proofs.BehindPlaceLemmas.{behind_one, rise_behind}
use Rattle.ifr_index.proofs.IndexLemmas.{nodes_rise}
use Rattle.ifr_nodes.proofs.ViewLemmas.{further, below_within}

-- A node stands right in the scope of another.
pub record IsInside (ns : List Node) (n : Node) : Type 0 where
  pub outer : Node
  pub within : Contains ns outer
  pub below : Contains (below outer) n
  pub path : n.path ≡ outer.path ++ as_ancestor outer ∷ []

among : (ns ms : List Node) (n : Node) → ((m : Node) → Contains ns m → Contains ms m) → IsInside ns n → IsInside ms n
among ns ms n into i = record { outer = i.outer; within = into i.outer i.within; below = i.below; path = i.path }

-- A node of a forest is one of its first level, or stands right in another.
inside_it : (f : Forest) (at : ℕ) (path : List Ancestor) (n : Node) → Contains (nodes_at at path f) n → (n.path ≡ path) ⊎ IsInside (nodes_at at path f) n
inside_it none at path n (k, lt, e) = absurd (omega arith)
inside_it (node op children rest) at path n (zero, lt, e) = inl (ap (λ (p : Node). p.path) (sym e))
inside_it (node op children rest) at path n (suc k, lt, e) =
    let here : Node = record { place = at; op = op; path = path; children = children } in
    let behind = at + length (flat (node op children none)) in
    let entered = path ++ as_ancestor here ∷ [] in
    let its = nodes_at (at + length op) entered children in
    let after = nodes_at behind path rest in
    elim (Contains-append_cases its after n (k, omega arith, e)) [
      | inl w ↦ elim (inside_it children (at + length op) entered n w) [
        | inl first ↦ inr (record { outer = here; within = (0, omega arith, refl); below = w; path = first })
        | inr deeper ↦ inr (among its (here ∷ (its ++ after)) n (λ m v. further here (its ++ after) m (Contains-append_left its after m v)) deeper)
      ]
      | inr w ↦ elim (inside_it rest behind path n w) [
        | inl first ↦ inl first
        | inr deeper ↦ inr (among after (here ∷ (its ++ after)) n (λ m v. further here (its ++ after) m (Contains-append_right its after m v)) deeper)
      ]
    ]

pub inside_node : (bytes : List ℕ) (n : Node) → Contains (nodes_of bytes) n → (n.path ≡ []) ⊎ IsInside (nodes_of bytes) n
inside_node bytes n within = inside_it (tree_of bytes) 4 [] n within

-- ---- what stands around a node

-- A node is the one that stands around another as an ancestor.
pub record IsHolder (bytes : List ℕ) (n : Node) (a : Ancestor) : Type 0 where
  pub node : Node
  pub within : Contains (nodes_of bytes) node
  pub is : as_ancestor node ≡ a
  pub below : Contains (below node) n

holder_up_to : (bytes : List ℕ) (k : ℕ) (n : Node) (a : Ancestor) → Contains (nodes_of bytes) n → length n.path ≤ k → Contains n.path a → IsHolder bytes n a
holder_up_to bytes zero n a within le on = absurd (omega (arith, le, on.1))
holder_up_to bytes (suc k) n a within le on = elim (inside_node bytes n within) [
  | inl bare ↦ absurd (omega (arith, ap (λ (l : List Ancestor). length l) bare, on.1))
  | inr r ↦
      let m = r.outer in
      let shorter : length m.path ≤ k = omega (arith, le, ap (λ (l : List Ancestor). length l) r.path, length-append m.path (as_ancestor m ∷ [])) in
      elim (Contains-append_cases m.path (as_ancestor m ∷ []) a (subst (λ (l : List Ancestor). Contains l a) r.path on)) [
        | inl outward ↦
            let h = holder_up_to bytes k m a r.within shorter outward in
            let q = h.node in
            record { node = q; within = h.within; is = h.is; below = below_within q.children (q.place + length q.op) (q.path ++ as_ancestor q ∷ []) m n h.below r.below }
        | inr last ↦ record { node = m; within = r.within; is = alone (as_ancestor m) a last; below = r.below }
      ]
]
  where
    alone : (b c : Ancestor) → Contains (b ∷ []) c → b ≡ c
    alone b c (zero, lt, e) = e
    alone b c (suc j, lt, e) = absurd (omega arith)

-- What is on the path of a node is a node that has it below.
pub holder : (bytes : List ℕ) (n : Node) (a : Ancestor) → Contains (nodes_of bytes) n → Contains n.path a → IsHolder bytes n a
holder bytes n a within on = holder_up_to bytes (length n.path) n a within (omega arith) on

-- ---- what stands behind a node

-- Behind a node come those below it, and then others.
pub record IsSplit (ns : List Node) (n : Node) : Type 0 where
  pub before : List Node
  pub after : List Node
  pub parts : ns ≡ before ++ n ∷ (below n ++ after)

split_at : (f : Forest) (at : ℕ) (path : List Ancestor) (n : Node) → Contains (nodes_at at path f) n → IsSplit (nodes_at at path f) n
split_at none at path n (k, lt, e) = absurd (omega arith)
split_at (node op children rest) at path n (zero, lt, e) =
    let here : Node = record { place = at; op = op; path = path; children = children } in
    let after = nodes_at (at + length (flat (node op children none))) path rest in
    subst (IsSplit (here ∷ (below here ++ after))) e (record { before = []; after = after; parts = refl })
split_at (node op children rest) at path n (suc k, lt, e) =
    let here : Node = record { place = at; op = op; path = path; children = children } in
    let behind = at + length (flat (node op children none)) in
    let its = below here in
    let after = nodes_at behind path rest in
    elim (Contains-append_cases its after n (k, omega arith, e)) [
      | inl w ↦
          let s = split_at children (at + length op) (path ++ as_ancestor here ∷ []) n w in
          record {
            before = here ∷ s.before;
            after = s.after ++ after;
            parts = ap (λ (l : List Node). here ∷ (l ++ after)) s.parts
                ∙ ap (λ (l : List Node). here ∷ l) (append_assoc s.before (n ∷ (below n ++ s.after)) after ∙ ap (λ (l : List Node). s.before ++ n ∷ l) (append_assoc (below n) s.after after));
          }
      | inr w ↦
          let s = split_at rest behind path n w in
          record {
            before = here ∷ (its ++ s.before);
            after = s.after;
            parts = ap (λ (l : List Node). here ∷ (its ++ l)) s.parts ∙ ap (λ (l : List Node). here ∷ l) (sym (append_assoc its s.before (n ∷ (below n ++ s.after))));
          }
    ]

pub split_node : (bytes : List ℕ) (n : Node) → Contains (nodes_of bytes) n → IsSplit (nodes_of bytes) n
split_node bytes n within = split_at (tree_of bytes) 4 [] n within

-- The nodes at greater places than another are those below it, and then others.
pub record IsBehind (ns : List Node) (n : Node) : Type 0 where
  pub others : List Node
  pub parts : filter (λ m. nat_lt n.place m.place) ns ≡ below n ++ others
  pub rise : Rise (λ (m : Node). m.place) (n.place + 1) (below n ++ others)

pub behind_node : (bytes : List ℕ) (n : Node) → SpellsForest bytes (tree_of bytes) → Contains (nodes_of bytes) n → IsBehind (nodes_of bytes) n
behind_node bytes n s within =
    let split = split_node bytes n within in
    let place = λ (m : Node). m.place in
    let rise = subst (Rise place 4) split.parts (nodes_rise bytes s) in
    record {
      others = split.after;
      parts = ap (filter (λ m. nat_lt n.place m.place)) split.parts ∙ behind_one place 4 split.before n (below n ++ split.after) rise;
      rise = rise_behind place 4 split.before n (below n ++ split.after) rise;
    }
