-- Lists of rules: one that grows, and the last in one that passes a test.
use Rattle.std.proofs.Common.{◌≡◌, ℕ, zero, suc, ◌<◌, Bool, true, false, cond, eqb, Some, None, List, [], ◌∷◌, ◌++◌, length, get_or, set, map, reverse, refl, sym, ap, ◌∙◌, arith, inl, inr}
use Rattle.std.specs.Global.{Vec}
use Rattle.std.specs.List.{find}
use Rattle.std.specs.List.Sorted.{IsPartitionPoint}
use Rattle.std.specs.Option.{option_or}
use Rattle.std.proofs.lemmas.Bool.{cases_eq, eq-eqb, ne_eqb}
use Rattle.std.proofs.lemmas.List.{reverse-append, append-nil, map-set, length-map, get_or-set_same, get_or-set_other}
use Rattle.std.proofs.lemmas.List.Folds.{find-append}
use Rattle.ifr_nodes.specs.code.KeptRules.{list_of}
use Rattle.ifr_nodes.specs.declared.rules.KeptRule.{KeptRule}

-- ---- the list of an id with more rules

abbrev pub items : Vec KeptRule → List KeptRule
items list = list.items

pub with_more : (lists : List (Vec KeptRule)) (id other : ℕ) (list : Vec KeptRule) (more : List KeptRule) → id < length lists → list.items ≡ list_of lists id ++ more
    → list_of (set lists id list) other ≡ list_of lists other ++ cond (eqb id other) more []
with_more lists id other list more lt is =
    ap (λ (ls : List (List KeptRule)). get_or ls other []) (map-set items lists id list) ∙ elim (cases_eq id other) [
      | inl same ↦
          rw (eq-eqb id other same)
          (ap (λ (k : ℕ). get_or (set (map items lists) id list.items) k []) (sym same)
          ∙ get_or-set_same (map items lists) id list.items [] (omega (arith, lt, length-map lists items))
          ∙ is ∙ ap (λ (k : ℕ). list_of lists k ++ more) same)
      | inr differs ↦
          rw (ne_eqb id other differs)
          (get_or-set_other (map items lists) id other list.items [] (λ e. differs (sym e)) ∙ sym (append-nil (list_of lists other)))
    ]

-- ---- the last that passes a test

-- Those below an index pass, and the others fail.
abbrev pub Parts : {X : Type 0} → (X → Bool) → List X → ℕ → Type 0
Parts p xs i = IsPartitionPoint (λ x. p x ≡ true) (λ x. p x ≡ false) xs i

module _ {X : Type 0} (p : X → Bool) where
  find_last : (x : X) (xs : List X) → find p (reverse (x ∷ xs)) ≡ option_or (find p (reverse xs)) (find p (x ∷ []))
  find_last x xs = ap (find p) (reverse-append (x ∷ []) xs) ∙ find-append p (reverse xs) (x ∷ [])

  -- What follows the first is parted too.
  all_fail : (x : X) (xs : List X) → Parts p (x ∷ xs) 0 → Parts p xs 0
  all_fail x xs split = (λ k d from below. absurd (omega (arith, below)), λ k d from lt. split.1 (suc k) d (omega arith) (omega (arith, lt)))

  behind : (x : X) (xs : List X) (i : ℕ) → Parts p (x ∷ xs) (suc i) → Parts p xs i
  behind x xs i split = (λ k d from below. split.0 (suc k) d (omega (arith, from)) (omega (arith, below)), λ k d from lt. split.1 (suc k) d (omega (arith, from)) (omega (arith, lt)))

  pub none_passes : (xs : List X) → Parts p xs 0 → find p (reverse xs) ≡ None
  none_passes [] split = refl
  none_passes (x ∷ xs) split =
      let fails : p x ≡ false = split.1 0 x (omega arith) (omega arith) in
      find_last x xs ∙ ap (λ o. option_or o (find p (x ∷ []))) (none_passes xs (all_fail x xs split)) ∙ rw fails refl

  pub last_passes : (xs : List X) (i : ℕ) (d : X) → i < length xs → Parts p xs (suc i) → find p (reverse xs) ≡ Some (get_or xs i d)
  last_passes [] i d lt split = absurd (omega arith)
  last_passes (x ∷ xs) zero d lt split =
      let passes : p x ≡ true = split.0 0 x (omega arith) (omega arith) in
      find_last x xs ∙ ap (λ o. option_or o (find p (x ∷ []))) (none_passes xs (behind x xs 0 split)) ∙ rw passes refl
  last_passes (x ∷ xs) (suc i) d lt split =
      find_last x xs ∙ ap (λ o. option_or o (find p (x ∷ []))) (last_passes xs i d (omega arith) (behind x xs (suc i) split))
