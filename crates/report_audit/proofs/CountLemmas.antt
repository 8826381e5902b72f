-- Forms and questions are counted.
use Rattle.std.proofs.Common.{◌≡◌, ℕ, ◌+◌, ◌<◌, ◌^◌, Bool, true, false, Option, Some, None, List, [], ◌∷◌, length, if◌then◌else◌, option_map, ap, arith, refl, subst}
use Rattle.std.specs.Prelude.{filter, is_some}
use Rattle.std.proofs.lemmas.List.Sums.{count_by-le-length, length-filter}
use Rattle.ifr_opcodes.specs.Forest.{Node}
use Rattle.ifr_nodes.specs.Accepted.{IsAccepted}
use Rattle.ifr_nodes.specs.Nodes.{is_form, nodes_of}
use Rattle.ifr_nodes.proofs.WalkLemmas.{at_first, few_left}

-- a package has few forms
pub few_forms : (ifr : List ℕ) (left : List Node) → IsAccepted ifr → left ≡ filter is_form (nodes_of ifr) → 0 + length left < 2 ^ 64
few_forms ifr left accepted same =
    let ns = nodes_of ifr in
    let first = at_first ifr accepted.checked.header accepted.checked.small accepted.checked.spelled in
    let all : length ns < 2 ^ 32 = subst (λ (l : List Node). length l < 2 ^ 32) first.1 (few_left ifr 4 [] first.0) in
    omega (arith, all, ap length same, length-filter is_form ns, count_by-le-length is_form ns)

-- whether a statement is a question, by its view
pub is_asked : {V M : Type 0} (view : V → M) (asks : Bool) (o : Option V) (m : M) → option_map view o ≡ (if asks then Some m else None) → is_some o ≡ asks
is_asked view true None m e = absurd cc
is_asked view true (Some v) m e = refl
is_asked view false None m e = refl
is_asked view false (Some v) m e = absurd cc

-- some things are counted, and one more of those that are left
pub room : {X : Type 0} (p : X → Bool) (x : X) (all left after : List X) (count : ℕ) → left ≡ x ∷ after → p x ≡ true → count + length (filter p left) ≡ length (filter p all)
    → length all < 2 ^ 32 → count + 1 < 2 ^ 64
room p x all left after count e is counted small =
    omega (arith, counted, small, ap (λ l. length (filter p l)) e, here, length-filter p all, count_by-le-length p all)
  where
    here : length (filter p (x ∷ after)) ≡ 1 + length (filter p after)
    here = rw is (omega arith)
