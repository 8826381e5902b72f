-- What is filtered of lists: how many elements, and lists of which the same elements pass.
use Rattle.std.proofs.Common.{◌≡◌, ℕ, suc, ◌+◌, ◌<◌, ◌||◌, Bool, true, false, cond, List, [], ◌∷◌, ◌++◌, length, filter, get_or, count_by, refl, sym, ap, ◌∙◌, inl, inr, arith, zero, ◌&&◌, map, subst}
use Rattle.std.proofs.lemmas.Bool.{cases_Bool, cond-true, cond-false, false≢true}
use Rattle.std.proofs.lemmas.List.Sums.{sum_by-cons, sum_by-append}
use Rattle.std.specs.List.{AllByRecursion}

abbrev pub one : Bool → ℕ
one b = cond b 1 0

counted_first : {X : Type 0} (p : X → Bool) (x : X) (xs : List X) → count_by p (x ∷ xs) ≡ one (p x) + count_by p xs
counted_first p x xs = sum_by-cons (λ y. one (p y)) x xs

pub count_joined : {X : Type 0} (p : X → Bool) (xs ys : List X) → count_by p (xs ++ ys) ≡ count_by p xs + count_by p ys
count_joined p xs ys = sum_by-append (λ y. one (p y)) xs ys

-- ---- two lists of which the same elements pass

pub same_count : {X Y : Type 0} (p : X → Bool) (q : Y → Bool) (xs : List X) (ys : List Y) (d : X) (e : Y) → length xs ≡ length ys
    → ((k : ℕ) → k < length xs → p (get_or xs k d) ≡ q (get_or ys k e)) → count_by p xs ≡ count_by q ys
same_count p q [] [] d e size same = refl
same_count p q [] (y ∷ ys) d e size same = absurd cc
same_count p q (x ∷ xs) [] d e size same = absurd cc
same_count p q (x ∷ xs) (y ∷ ys) d e size same =
    let here : one (p x) ≡ one (q y) = ap one (same 0 (omega arith)) in
    let behind : count_by p xs ≡ count_by q ys = same_count p q xs ys d e (omega (arith, size)) (λ k less. same (suc k) (omega (arith, less))) in
    let left = counted_first p x xs in
    let right = counted_first q y ys in
    omega (arith, left, right, here, behind)

pub none_count : {X : Type 0} (p : X → Bool) (xs : List X) (d : X) → ((k : ℕ) → k < length xs → p (get_or xs k d) ≡ false) → count_by p xs ≡ 0
none_count p [] d none = refl
none_count p (x ∷ xs) d none =
    let here : one (p x) ≡ 0 = ap one (none 0 (omega arith)) in
    let behind : count_by p xs ≡ 0 = none_count p xs d (λ k less. none (suc k) (omega (arith, less))) in
    let all = counted_first p x xs in
    omega (arith, all, here, behind)

-- those of two kinds, of which an element is one at most
pub count_either : {X : Type 0} (p a b : X → Bool) → ((x : X) → a x ≡ true → b x ≡ false) → (xs : List X)
    → count_by p (filter a xs ++ filter b xs) ≡ count_by p (filter (λ x. a x || b x) xs)
count_either p a b apart [] = refl
count_either p a b apart (x ∷ xs) =
    let behind : count_by p (filter a xs) + count_by p (filter b xs) ≡ count_by p (filter (λ x. a x || b x) xs) = sym (count_joined p (filter a xs) (filter b xs)) ∙ count_either p a b apart xs in
    count_joined p (filter a (x ∷ xs)) (filter b (x ∷ xs)) ∙ elim (cases_Bool (a x)) [
      | inl first ↦
          let firsts : count_by p (filter a (x ∷ xs)) ≡ one (p x) + count_by p (filter a xs) = ap (count_by p) (cond-true (a x) (x ∷ filter a xs) (filter a xs) first) ∙ counted_first p x (filter a xs) in
          let seconds : count_by p (filter b (x ∷ xs)) ≡ count_by p (filter b xs) = ap (count_by p) (cond-false (b x) (x ∷ filter b xs) (filter b xs) (apart x first)) in
          let all : count_by p (filter (λ x. a x || b x) (x ∷ xs)) ≡ one (p x) + count_by p (filter (λ x. a x || b x) xs) =
          ap (count_by p) (cond-true (a x || b x) (x ∷ filter (λ x. a x || b x) xs) (filter (λ x. a x || b x) xs) (ap (λ c. c || b x) first)) ∙ counted_first p x (filter (λ x. a x || b x) xs) in
          omega (arith, firsts, seconds, all, behind)
      | inr other ↦
          let firsts : count_by p (filter a (x ∷ xs)) ≡ count_by p (filter a xs) = ap (count_by p) (cond-false (a x) (x ∷ filter a xs) (filter a xs) other) in
          elim (cases_Bool (b x)) [
            | inl second ↦
                let seconds : count_by p (filter b (x ∷ xs)) ≡ one (p x) + count_by p (filter b xs) = ap (count_by p) (cond-true (b x) (x ∷ filter b xs) (filter b xs) second) ∙ counted_first p x (filter b xs) in
                let all : count_by p (filter (λ x. a x || b x) (x ∷ xs)) ≡ one (p x) + count_by p (filter (λ x. a x || b x) xs) =
                ap (count_by p) (cond-true (a x || b x) (x ∷ filter (λ x. a x || b x) xs) (filter (λ x. a x || b x) xs) (ap (λ c. c || b x) other ∙ second)) ∙ counted_first p x (filter (λ x. a x || b x) xs) in
                omega (arith, firsts, seconds, all, behind)
            | inr neither ↦
                let seconds : count_by p (filter b (x ∷ xs)) ≡ count_by p (filter b xs) = ap (count_by p) (cond-false (b x) (x ∷ filter b xs) (filter b xs) neither) in
                let all : count_by p (filter (λ x. a x || b x) (x ∷ xs)) ≡ count_by p (filter (λ x. a x || b x) xs) =
                ap (count_by p) (cond-false (a x || b x) (x ∷ filter (λ x. a x || b x) xs) (filter (λ x. a x || b x) xs) (ap (λ c. c || b x) other ∙ neither)) in
                omega (arith, firsts, seconds, all, behind)
          ]
    ]

-- ---- those that pass a narrower test

pub filter_narrower : {X : Type 0} (a c : X → Bool) → ((x : X) → a x ≡ true → c x ≡ true) → (xs : List X) → filter a (filter c xs) ≡ filter a xs
filter_narrower a c implies [] = refl
filter_narrower a c implies (x ∷ xs) = elim (cases_Bool (c x)) [
  | inl takes ↦
      ap (filter a) (cond-true (c x) (x ∷ filter c xs) (filter c xs) takes)
      ∙ ap (λ l. cond (a x) (x ∷ l) l) (filter_narrower a c implies xs)
  | inr leaves ↦
      let out : a x ≡ false = elim (cases_Bool (a x)) [ inl in' ↦ absurd (false≢true (sym leaves ∙ implies x in')) | inr out ↦ out ] in
      ap (filter a) (cond-false (c x) (x ∷ filter c xs) (filter c xs) leaves)
      ∙ filter_narrower a c implies xs ∙ sym (cond-false (a x) (x ∷ filter a xs) (filter a xs) out)
]

module _ {X Y Z : Type 0} (p : X → Bool) (q : Y → Bool) (f : X → Z) (g : Y → Z) (d : X) (e : Y) where
  abbrev SamePass : List X → List Y → Type 0
  SamePass xs ys = (k : ℕ) → k < length xs → p (get_or xs k d) ≡ q (get_or ys k e)

  abbrev SameValues : List X → List Y → Type 0
  SameValues xs ys = (k : ℕ) → k < length xs → p (get_or xs k d) ≡ true → f (get_or xs k d) ≡ g (get_or ys k e)

  pub map_aligned : (xs : List X) (ys : List Y) → length xs ≡ length ys → SamePass xs ys → SameValues xs ys → map f (filter p xs) ≡ map g (filter q ys)
  map_aligned [] [] size pass values = refl
  map_aligned [] (y ∷ ys) size pass values = absurd cc
  map_aligned (x ∷ xs) [] size pass values = absurd cc
  map_aligned (x ∷ xs) (y ∷ ys) size pass values =
      let behind = map_aligned xs ys (omega (arith, size)) (λ k less. pass (suc k) (omega (arith, less))) (λ k less. values (suc k) (omega (arith, less))) in
      elim (cases_Bool (p x)) [
        | inl takes ↦
            ap (map f) (cond-true (p x) (x ∷ filter p xs) (filter p xs) takes) ∙ ap (λ z. z ∷ map f (filter p xs)) (values 0 (omega arith) takes) ∙ ap (λ l. g y ∷ l) behind
            ∙ sym (ap (map g) (cond-true (q y) (y ∷ filter q ys) (filter q ys) (sym (pass 0 (omega arith)) ∙ takes)))
        | inr leaves ↦
            ap (map f) (cond-false (p x) (x ∷ filter p xs) (filter p xs) leaves) ∙ behind
            ∙ sym (ap (map g) (cond-false (q y) (y ∷ filter q ys) (filter q ys) (sym (pass 0 (omega arith)) ∙ leaves)))
      ]

  pub values_aligned : (xs : List X) (ys : List Y) → length xs ≡ length ys → SamePass xs ys → map f (filter p xs) ≡ map g (filter q ys) → SameValues xs ys
  values_aligned [] ys size pass same k less takes = absurd (omega (arith, less))
  values_aligned (x ∷ xs) [] size pass same k less takes = absurd cc
  values_aligned (x ∷ xs) (y ∷ ys) size pass same zero less takes =
      let all : f x ∷ map f (filter p xs) ≡ g y ∷ map g (filter q ys) =
      sym (ap (map f) (cond-true (p x) (x ∷ filter p xs) (filter p xs) takes)) ∙ same ∙ ap (map g) (cond-true (q y) (y ∷ filter q ys) (filter q ys) (sym (pass 0 (omega arith)) ∙ takes)) in
      cc
  values_aligned (x ∷ xs) (y ∷ ys) size pass same (suc k) less takes =
      values_aligned xs ys (omega (arith, size)) (λ j inside. pass (suc j) (omega (arith, inside))) (elim (cases_Bool (p x)) [
        | inl first ↦
            let all : f x ∷ map f (filter p xs) ≡ g y ∷ map g (filter q ys) =
            sym (ap (map f) (cond-true (p x) (x ∷ filter p xs) (filter p xs) first)) ∙ same ∙ ap (map g) (cond-true (q y) (y ∷ filter q ys) (filter q ys) (sym (pass 0 (omega arith)) ∙ first)) in
            cc
        | inr leaves ↦
            sym (ap (map f) (cond-false (p x) (x ∷ filter p xs) (filter p xs) leaves)) ∙ same ∙ ap (map g) (cond-false (q y) (y ∷ filter q ys) (filter q ys) (sym (pass 0 (omega arith)) ∙ leaves))
      ]) k (omega (arith, less)) takes

pub count_filtered : {X : Type 0} (p q : X → Bool) (xs : List X) → count_by q (filter p xs) ≡ count_by (λ x. p x && q x) xs
count_filtered p q [] = refl
count_filtered p q (x ∷ xs) =
    let behind = count_filtered p q xs in
    let all = sum_by-cons (λ y. one (p y && q y)) x xs in
    elim (cases_Bool (p x)) [
      | inl takes ↦
          let here : count_by q (filter p (x ∷ xs)) ≡ one (q x) + count_by q (filter p xs) = ap (count_by q) (cond-true (p x) (x ∷ filter p xs) (filter p xs) takes) ∙ sum_by-cons (λ y. one (q y)) x (filter p xs) in
          let same : one (p x && q x) ≡ one (q x) = ap (λ b. one (b && q x)) takes in
          omega (arith, behind, all, here, same)
      | inr leaves ↦
          let here : count_by q (filter p (x ∷ xs)) ≡ count_by q (filter p xs) = ap (count_by q) (cond-false (p x) (x ∷ filter p xs) (filter p xs) leaves) in
          let same : one (p x && q x) ≡ 0 = ap (λ b. one (b && q x)) leaves in
          omega (arith, behind, all, here, same)
    ]

-- what holds of all that pass holds of each that does
pub each_passing : {X : Type 0} (P : X → Type 0) (p : X → Bool) (xs : List X) (d : X) → AllByRecursion P (filter p xs) → (k : ℕ) → k < length xs → p (get_or xs k d) ≡ true → P (get_or xs k d)
each_passing P p [] d all k less takes = absurd (omega (arith, less))
each_passing P p (x ∷ xs) d all zero less takes = let these = subst (AllByRecursion P) (cond-true (p x) (x ∷ filter p xs) (filter p xs) takes) all in these.0
each_passing P p (x ∷ xs) d all (suc k) less takes = each_passing P p xs d (elim (cases_Bool (p x)) [
  | inl first ↦ let these = subst (AllByRecursion P) (cond-true (p x) (x ∷ filter p xs) (filter p xs) first) all in these.1
  | inr leaves ↦ subst (AllByRecursion P) (cond-false (p x) (x ∷ filter p xs) (filter p xs) leaves) all
]) k (omega (arith, less)) takes
