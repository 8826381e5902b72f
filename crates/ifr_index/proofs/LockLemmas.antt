-- The first LOCKED of each scope are found node by node.
use Rattle.std.proofs.Common.{◌≡◌, ℕ, ◌+◌, ◌<◌, Bool, true, false, eqb, cond, Option, Some, None, List, [], ◌∷◌, ◌++◌, length, get_or, drop, refl, sym, ap, ◌∙◌, inl, inr, arith}
use Rattle.std.specs.BTreeMap.{BTreeMap, Updates, get, is_at}
use Rattle.std.specs.Ordering.{nat_cmp}
use Rattle.std.specs.Prelude.{◌&&◌, nat_lt, option_map}
use Rattle.std.proofs.lemmas.Bool.{cases_Bool, cond-true, cond-false, eqb-true, ne_eqb, ltb-true, false≢true}
use Rattle.std.specs.List.{flat_map}
use Rattle.std.specs.Option.{option_or}
use Rattle.std.proofs.lemmas.List.{at_drop_more}
use Rattle.ifr_opcodes.specs.Forest.{Mark, Node}
use Rattle.ifr_nodes.specs.Locks.{is_locked, has_place, locks_scope, locked_in, chain, first_of_nodes}
use Rattle.ifr_nodes.specs.Structure.{parent}
use Rattle.ifr_index.specs.code.LockIndex.{Finds, first_place, lock_place, first_some}

-- ---- the first along the places of a node

-- none is found at the next place
pub passed : (found : ℕ → Option ℕ) (places : List ℕ) (i : ℕ) → i < length places → found (get_or places i 0) ≡ None → first_some found (drop (i + 1) places) ≡ first_some found (drop i places)
passed found places i lt none = sym (at_drop_more (first_some found) places i 0 lt ∙ ap (λ (o : Option ℕ). option_or o (first_some found (drop (i + 1) places))) none)

-- or one is
pub found_next : (found : ℕ → Option ℕ) (places : List ℕ) (i x : ℕ) → i < length places → found (get_or places i 0) ≡ Some x → first_some found (drop i places) ≡ Some x
found_next found places i x lt some = at_drop_more (first_some found) places i 0 lt ∙ ap (λ (o : Option ℕ). option_or o (first_some found (drop (i + 1) places))) some

first-append : (xs ys : List Node) → option_map (λ (n : Node). n.place) (first_of_nodes (xs ++ ys)) ≡ option_or (option_map (λ (n : Node). n.place) (first_of_nodes xs)) (option_map (λ (n : Node). n.place) (first_of_nodes ys))
first-append [] ys = refl
first-append (x ∷ xs) ys = refl

first-flat_map : (ns : List Node) (places : List ℕ) → option_map (λ (n : Node). n.place) (first_of_nodes (flat_map (locked_in ns) places)) ≡ first_some (first_place ns) places
first-flat_map ns [] = refl
first-flat_map ns (place ∷ places) = first-append (locked_in ns place) (flat_map (locked_in ns) places) ∙ ap (option_or (first_place ns place)) (first-flat_map ns places)

same_first : (found all : ℕ → Option ℕ) (places : List ℕ) → ((scope : ℕ) → found scope ≡ all scope) → first_some found places ≡ first_some all places
same_first found all [] e = refl
same_first found all (place ∷ places) e = rw (e place, same_first found all places e) refl

-- what is found for the scopes tells for a node
pub decides : (ns : List Node) (found : ℕ → Option ℕ) (n : Node) → ((scope : ℕ) → found scope ≡ first_place ns scope) → first_some found (chain n) ≡ lock_place ns n
decides ns found n e = same_first found (first_place ns) (chain n) e ∙ sym (first-flat_map ns (chain n))

-- ---- node by node

same_key : (a b : ℕ) → is_at (nat_cmp a) b ≡ eqb a b
same_key a b = elim (cases_Bool (nat_lt a b)) [
  | inl less ↦ rw (less, ne_eqb a b (λ e. omega (arith, ltb-true a b less, e))) refl
  | inr far ↦ elim (cases_Bool (eqb a b)) [ inl here ↦ rw (far, here) refl | inr other ↦ rw (far, other) refl ]
]

-- where a node stands, if it is directly in this scope
in_it : (m : Option Mark) (scope s : ℕ) → has_place scope m ≡ true → has_place s m ≡ eqb scope s
in_it None scope s e = absurd (false≢true e)
in_it (Some a) scope s e = ap (λ (k : ℕ). eqb k s) (eqb-true a.place scope e)

-- a node that is no LOCKED is passed
pub lock_other : (all found : ℕ → Option ℕ) (n : Node) (left : List Node) → is_locked n ≡ false → Finds all found (n ∷ left) → Finds all found left
lock_other all found n left other finds = λ scope.
    let none : locks_scope scope n ≡ false = rw other refl in
    sym (ap (λ (l : List Node). option_or (found scope) (option_map (λ (m : Node). m.place) (first_of_nodes l))) (cond-false (locks_scope scope n) (n ∷ locked_in left scope) (locked_in left scope) none)) ∙ finds scope

-- the first LOCKED of a scope is added
pub lock_added : (all : ℕ → Option ℕ) (old new : BTreeMap ℕ ℕ) (n : Node) (left : List Node) (scope : ℕ) → is_locked n ≡ true → has_place scope (parent n) ≡ true → get nat_cmp old scope ≡ None → Updates nat_cmp old new scope (Some n.place)
    → Finds all (get nat_cmp old) (n ∷ left) → Finds all (get nat_cmp new) left
lock_added all old new n left scope is around none updates finds = λ s.
    let put : get nat_cmp new s ≡ cond (eqb scope s) (Some n.place) (get nat_cmp old s) = updates.0 s ∙ ap (λ (b : Bool). cond b (Some n.place) (get nat_cmp old s)) (same_key scope s) in
    let locks : locks_scope s n ≡ eqb scope s = ap (λ (b : Bool). b && has_place s (parent n)) is ∙ in_it (parent n) scope s around in
    elim (cases_Bool (eqb scope s)) [
      | inl here ↦
          let before : get nat_cmp old s ≡ None = ap (get nat_cmp old) (sym (eqb-true scope s here)) ∙ none in
          let first : first_place (n ∷ left) s ≡ Some n.place = ap (λ (l : List Node). option_map (λ (m : Node). m.place) (first_of_nodes l)) (cond-true (locks_scope s n) (n ∷ locked_in left s) (locked_in left s) (locks ∙ here)) in
          ap (λ (o : Option ℕ). option_or o (first_place left s)) (put ∙ cond-true (eqb scope s) (Some n.place) (get nat_cmp old s) here) ∙ sym first ∙ sym (ap (λ (o : Option ℕ). option_or o (first_place (n ∷ left) s)) before) ∙ finds s
      | inr other ↦
          let later : first_place (n ∷ left) s ≡ first_place left s = ap (λ (l : List Node). option_map (λ (m : Node). m.place) (first_of_nodes l)) (cond-false (locks_scope s n) (n ∷ locked_in left s) (locked_in left s) (locks ∙ other)) in
          ap (λ (o : Option ℕ). option_or o (first_place left s)) (put ∙ cond-false (eqb scope s) (Some n.place) (get nat_cmp old s) other) ∙ sym (ap (option_or (get nat_cmp old s)) later) ∙ finds s
    ]
