-- Elements of lists: which pass a test, and which is the last.
use Rattle.std.proofs.Common.{◌≡◌, ◌⊎◌, zero, suc, Bool, true, false, Option, Some, None, List, [], ◌∷◌, map, reverse, refl, sym, ap, ◌∙◌, inl, inr, arith}
use Rattle.std.specs.Prelude.{Contains, ◌&&◌, filter, option_map}
use Rattle.std.specs.List.{find, last_or, list_any}
use Rattle.std.specs.Option.{option_or}
use Rattle.std.proofs.lemmas.Bool.{cases_Bool, cond-true, cond-false, false≢true, or_cases, or_left, or_right}
use Rattle.std.proofs.lemmas.List.{reverse-append, map-append}
use Rattle.std.proofs.lemmas.List.Folds.{find-append}
use Rattle.ifr_nodes.proofs.ViewLemmas.{further}

-- ---- tests

-- two tests that pass alike are the same
pub alike : (a b : Bool) → (a ≡ true → b ≡ true) → (b ≡ true → a ≡ true) → a ≡ b
alike true b f g = sym (f refl)
alike false true f g = g refl
alike false false f g = refl

-- ---- elements

pub nothing : {X : Type 0} (x : X) → Contains {X = X} [] x → ⊥
nothing x (k, lt, e) = omega arith

pub first_or_later : {X : Type 0} (y : X) (xs : List X) (x : X) → Contains (y ∷ xs) x → (y ≡ x) ⊎ Contains xs x
first_or_later y xs x (zero, lt, e) = inl e
first_or_later y xs x (suc k, lt, e) = inr (k, omega arith, e)

pub any_passes : {X : Type 0} (p : X → Bool) (xs : List X) → list_any p xs ≡ true → (x : X) × Contains xs x × (p x ≡ true)
any_passes p [] h = absurd (false≢true h)
any_passes p (y ∷ xs) h = elim (or_cases (p y) (list_any p xs) h) [
  | inl is ↦ (y, (0, omega arith, refl), is)
  | inr later ↦ let its = any_passes p xs later in (its.0, further y xs its.0 its.1, its.2)
]

pub some_passes : {X : Type 0} (p : X → Bool) (xs : List X) (x : X) → Contains xs x → p x ≡ true → list_any p xs ≡ true
some_passes p [] x w h = absurd (nothing x w)
some_passes p (y ∷ xs) x w h = elim (first_or_later y xs x w) [
  | inl e ↦ or_left (p y) (list_any p xs) (ap p e ∙ h)
  | inr later ↦ or_right (p y) (list_any p xs) (some_passes p xs x later h)
]

-- what elements give
pub given : {X Y : Type 0} (f : X → Y) (xs : List X) (y : Y) → Contains (map f xs) y → (x : X) × Contains xs x × (f x ≡ y)
given f [] y w = absurd (nothing y w)
given f (x ∷ xs) y w = elim (first_or_later (f x) (map f xs) y w) [
  | inl e ↦ (x, (0, omega arith, refl), e)
  | inr later ↦ let its = given f xs y later in (its.0, further x xs its.0 its.1, its.2)
]

pub gives : {X Y : Type 0} (f : X → Y) (xs : List X) (x : X) → Contains xs x → Contains (map f xs) (f x)
gives f [] x w = absurd (nothing x w)
gives f (y ∷ xs) x w = elim (first_or_later y xs x w) [
  | inl e ↦ (0, omega arith, ap f e)
  | inr later ↦ further (f y) (map f xs) (f x) (gives f xs x later)
]

-- two maps that agree on each element
pub map_alike : {X Y : Type 0} (f g : X → Y) (xs : List X) → ((x : X) → Contains xs x → f x ≡ g x) → map f xs ≡ map g xs
map_alike f g [] same = refl
map_alike f g (x ∷ xs) same =
    ap (λ y. y ∷ map f xs) (same x (0, omega arith, refl)) ∙ ap (λ l. g x ∷ l) (map_alike f g xs (λ y w. same y (further x xs y w)))

-- ---- the last

pub last_there : {X : Type 0} (found : Option X) (xs : List X) (x : X) → last_or found xs ≡ Some x → (found ≡ Some x) ⊎ Contains xs x
last_there found [] x e = inl e
last_there found (y ∷ xs) x e = elim (last_there (Some y) xs x e) [
  | inl own ↦ let same : y ≡ x = cc in inr (0, omega arith, same)
  | inr later ↦ inr (further y xs x later)
]

-- the last of some elements is one of them
pub last_is_there : {X : Type 0} (xs : List X) (x : X) → last_or None xs ≡ Some x → Contains xs x
last_is_there xs x e = elim (last_there None xs x e) [ inl own ↦ absurd cc | inr there ↦ there ]

-- where there is one, there is a last one
pub last_some : {X : Type 0} (found : X) (xs : List X) → (x : X) × (last_or (Some found) xs ≡ Some x)
last_some found [] = (found, refl)
last_some found (y ∷ xs) = last_some y xs

pub some_last : {X : Type 0} (xs : List X) (y : X) → Contains xs y → (x : X) × (last_or None xs ≡ Some x)
some_last [] y w = absurd (nothing y w)
some_last (x ∷ xs) y w = last_some x xs

-- Of those of a kind, each as what it gives, the first from behind that passes a test is the last that is of the kind and
-- passes.
module _ {X Y : Type 0} (give : X → Y) (kind both : X → Bool) (p : Y → Bool) where
  abbrev backwards : List X → List Y
  backwards xs = map give (reverse (filter kind xs))

  none_more : (o : Option Y) → option_or o None ≡ o
  none_more None = refl
  none_more (Some y) = refl

  or_assoc : (a b c : Option Y) → option_or (option_or a b) c ≡ option_or a (option_or b c)
  or_assoc None b c = refl
  or_assoc (Some y) b c = refl

  one_more : (x : X) (xs : List X) → kind x ≡ true → find p (backwards (x ∷ xs)) ≡ option_or (find p (backwards xs)) (find p (give x ∷ []))
  one_more x xs is =
      ap (λ (l : List X). find p (map give (reverse l))) (cond-true (kind x) (x ∷ filter kind xs) (filter kind xs) is)
      ∙ ap (λ (l : List X). find p (map give l)) (reverse-append (x ∷ []) (filter kind xs))
      ∙ ap (find p) (map-append give (reverse (filter kind xs)) (x ∷ []))
      ∙ find-append p (backwards xs) (give x ∷ [])

  no_more : (x : X) (xs : List X) → kind x ≡ false → backwards (x ∷ xs) ≡ backwards xs
  no_more x xs other = ap (λ (l : List X). map give (reverse l)) (cond-false (kind x) (x ∷ filter kind xs) (filter kind xs) other)

  last_passing : (found : Option X) (xs : List X) → ((x : X) → Contains xs x → both x ≡ kind x && p (give x))
      → option_or (find p (backwards xs)) (option_map give found) ≡ option_map give (last_or found (filter both xs))
  last_passing found [] same = refl
  last_passing found (x ∷ xs) same =
      let later : (o : Option X) → option_or (find p (backwards xs)) (option_map give o) ≡ option_map give (last_or o (filter both xs)) = λ o. last_passing o xs (λ y w. same y (further x xs y w)) in
      let own = same x (0, omega arith, refl) in
      elim (cases_Bool (kind x)) [
        | inr other ↦
            let out : both x ≡ false = own ∙ ap (λ (b : Bool). b && p (give x)) other in
            ap (λ (l : List Y). option_or (find p l) (option_map give found)) (no_more x xs other) ∙ later found ∙ ap (λ (l : List X). option_map give (last_or found l)) (sym (cond-false (both x) (x ∷ filter both xs) (filter both xs) out))
        | inl is ↦ elim (cases_Bool (p (give x))) [
          | inl passed ↦
              let in_it : both x ≡ true = own ∙ ap (λ (b : Bool). b && p (give x)) is ∙ passed in
              let its : find p (give x ∷ []) ≡ Some (give x) = rw passed refl in
              ap (λ (o : Option Y). option_or o (option_map give found)) (one_more x xs is)
              ∙ or_assoc (find p (backwards xs)) (find p (give x ∷ [])) (option_map give found)
              ∙ ap (λ (o : Option Y). option_or (find p (backwards xs)) (option_or o (option_map give found))) its
              ∙ later (Some x)
              ∙ ap (λ (l : List X). option_map give (last_or found l)) (sym (cond-true (both x) (x ∷ filter both xs) (filter both xs) in_it))
          | inr failed ↦
              let out : both x ≡ false = own ∙ ap (λ (b : Bool). b && p (give x)) is ∙ failed in
              let its : find p (give x ∷ []) ≡ None = rw failed refl in
              ap (λ (o : Option Y). option_or o (option_map give found)) (one_more x xs is)
              ∙ or_assoc (find p (backwards xs)) (find p (give x ∷ [])) (option_map give found)
              ∙ ap (λ (o : Option Y). option_or (find p (backwards xs)) (option_or o (option_map give found))) its
              ∙ later found
              ∙ ap (λ (l : List X). option_map give (last_or found l)) (sym (cond-false (both x) (x ∷ filter both xs) (filter both xs) out))
        ]
      ]

  pub found_from_behind : (xs : List X) → ((x : X) → Contains xs x → both x ≡ kind x && p (give x)) → find p (backwards xs) ≡ option_map give (last_or None (filter both xs))
  found_from_behind xs same = sym (none_more (find p (backwards xs))) ∙ last_passing None xs same
