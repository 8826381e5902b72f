-- Tables of the nodes of a package, looked up by place.
use Rattle.std.proofs.Common.{◌≡◌, ℕ, ◌+◌, ◌≤◌, Bool, true, false, eqb, Option, Some, None, List, [], ◌∷◌, length, map, refl, sym, ap, ◌∙◌, subst, inl, inr, arith}
use Rattle.std.specs.Prelude.{◌&&◌, option_map, filter}
use Rattle.std.specs.List.{find}
use Rattle.std.proofs.lemmas.Bool.{cases_Bool, ne_eqb, and_from, and_right}
use Rattle.hii_bytes.specs.code.FirstFaults.{Rise}
use Rattle.ifr_opcodes.specs.Forest.{Node, SpellsForest, flat}
use Rattle.ifr_opcodes.specs.Reading.{tree_of}
use Rattle.ifr_index.specs.code.Index.{kind_at}
use Rattle.ifr_nodes.specs.Nodes.{nodes_of}
use Rattle.ifr_index.proofs.BehindPlaceLemmas.{lower}
use Rattle.ifr_nodes.proofs.PlaceLemmas.{nodes_within}
use Rattle.ifr_nodes.proofs.StructureLemmas.{rising}

-- ---- the nodes of a package

abbrev place_of : Node → ℕ
place_of n = n.place

pub nodes_rise : (bytes : List ℕ) → SpellsForest bytes (tree_of bytes) → Rise place_of 4 (nodes_of bytes)
nodes_rise bytes s = rising (nodes_of bytes) 4 (4 + length (flat (tree_of bytes))) (nodes_within (tree_of bytes) 4 [] s.are_nodes)

passed : (is : Node → Bool) (n : Node) (rest : List Node) (place : ℕ) → is n && eqb n.place place ≡ false → kind_at is (n ∷ rest) place ≡ kind_at is rest place
passed is n rest place e = rw e refl

here : (is : Node → Bool) (n : Node) (rest : List Node) (place : ℕ) → is n && eqb n.place place ≡ true → kind_at is (n ∷ rest) place ≡ Some n
here is n rest place e = rw e refl

-- nodes that stand behind a place do not stand there
pub behind : (is : Node → Bool) (low place : ℕ) (ns : List Node) → place + 1 ≤ low → Rise place_of low ns → kind_at is ns place ≡ None
behind is low place [] less r = refl
behind is low place (n ∷ ns) less r =
    let above : low ≤ n.place = r.0 in
    let other : eqb n.place place ≡ false = ne_eqb n.place place (λ e. omega arith) in
    passed is n ns place (and_right (is n) (eqb n.place place) other) ∙ behind is (n.place + 1) place ns (omega arith) r.1

-- ---- a table of those of a kind

module _ {X : Type 0} (is : Node → Bool) (entry : Node → X) (place : X → ℕ) (same : (n : Node) → place (entry n) ≡ n.place) where
  pub table_rises : (low : ℕ) (ns : List Node) → Rise place_of low ns → Rise place low (map entry (filter is ns))
  table_rises low [] r = tt
  table_rises low (n ∷ ns) r = elim (cases_Bool (is n)) [
    | inl kept ↦ rw kept (omega (arith, r.0, same n), subst (λ (p : ℕ). Rise place (p + 1) (map entry (filter is ns))) (sym (same n)) (table_rises (n.place + 1) ns r.1))
    | inr other ↦ rw other (lower place low (n.place + 1) (map entry (filter is ns)) (omega (arith, r.0)) (table_rises (n.place + 1) ns r.1))
  ]

  pub table_at : (p : ℕ) (ns : List Node) → find (λ x. eqb (place x) p) (map entry (filter is ns)) ≡ option_map entry (kind_at is ns p)
  table_at p [] = refl
  table_at p (n ∷ ns) = elim (cases_Bool (is n)) [
    | inl kept ↦ elim (cases_Bool (eqb n.place p)) [
      | inl there ↦
          let found : eqb (place (entry n)) p ≡ true = ap (λ (q : ℕ). eqb q p) (same n) ∙ there in
          rw (here is n ns p (and_from (is n) (eqb n.place p) kept there), kept, found) refl
      | inr elsewhere ↦
          let missed : eqb (place (entry n)) p ≡ false = ap (λ (q : ℕ). eqb q p) (same n) ∙ elsewhere in
          rw (passed is n ns p (and_right (is n) (eqb n.place p) elsewhere), kept, missed) (table_at p ns)
    ]
    | inr other ↦ rw (passed is n ns p (ap (λ (b : Bool). b && eqb n.place p) other), other) (table_at p ns)
  ]

  -- what is found in it at a place
  pub looked_up : (p : ℕ) (ns : List Node) (table : List X) (result : Option X) → Rise place_of 4 ns → table ≡ map entry (filter is ns)
      → ((low : ℕ) → Rise place low table → result ≡ find (λ x. eqb (place x) p) table) → result ≡ option_map entry (kind_at is ns p)
  looked_up p ns table result r e found =
      found 4 (subst (Rise place 4) (sym e) (table_rises 4 ns r)) ∙ ap (find (λ x. eqb (place x) p)) e ∙ table_at p ns
