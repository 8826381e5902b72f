-- Lists that are added to, element by element.
use Rattle.std.proofs.Common.{◌≡◌, Bool, true, false, List, [], ◌∷◌, ◌++◌, map, refl, sym, ap, ◌∙◌, append-nil, append_assoc}
use Rattle.std.specs.Prelude.{filter, OnOk, Result, Ok, Err}
use Rattle.std.specs.List.{flat_map}
use Rattle.std.proofs.lemmas.Bool.{cond-false, cond-true}

mapped : {A B : Type 0} (f : A → B) (xs ys : List A) → map f (xs ++ ys) ≡ map f xs ++ map f ys
mapped f [] ys = refl
mapped f (x ∷ xs) ys = ap (λ l. f x ∷ l) (mapped f xs ys)

-- some were added, and the rest is left
pub some_added : {A : Type 0} (old new some left rest all : List A) → new ≡ old ++ some → left ≡ some ++ rest → old ++ left ≡ all → new ++ rest ≡ all
some_added old new some left rest all e steps inv = ap (λ l. l ++ rest) e ∙ append_assoc old some rest ∙ ap (λ l. old ++ l) (sym steps) ∙ inv

-- nothing is left
pub all_added : {A : Type 0} (old left all : List A) → left ≡ [] → old ++ left ≡ all → old ≡ all
all_added old left all none inv = sym (append-nil old) ∙ ap (λ l. old ++ l) (sym none) ∙ inv

module _ {A B : Type 0} (f : A → B) where
  -- one more was added
  pub one_added : (old new : List A) (left rest all : List B) (x : A) → new ≡ old ++ x ∷ [] → left ≡ f x ∷ rest → map f old ++ left ≡ all → map f new ++ rest ≡ all
  one_added old new left rest all x e steps inv = some_added (map f old) (map f new) (f x ∷ []) left rest all (ap (map f) e ∙ mapped f old (x ∷ [])) steps inv

  -- where those alone are that pass a test
  pub one_passing : (test : B → Bool) (old new : List A) (left rest all : List B) (x : A) → new ≡ old ++ x ∷ [] → left ≡ f x ∷ rest → test (f x) ≡ true
      → map f old ++ filter test left ≡ all → map f new ++ filter test rest ≡ all
  one_passing test old new left rest all x e steps is inv =
      one_added old new (filter test left) (filter test rest) all x e (ap (filter test) steps ∙ cond-true (test (f x)) (f x ∷ filter test rest) (filter test rest) is) inv

  pub one_failing : (test : B → Bool) (old : List A) (left rest all : List B) (x : A) → left ≡ f x ∷ rest → test (f x) ≡ false
      → map f old ++ filter test left ≡ all → map f old ++ filter test rest ≡ all
  one_failing test old left rest all x steps not inv =
      ap (λ l. map f old ++ l) (sym (ap (filter test) steps ∙ cond-false (test (f x)) (f x ∷ filter test rest) (filter test rest) not)) ∙ inv

-- what one comes to was added
pub each_added : {A C : Type 0} (g : A → List C) (old new all : List C) (left rest : List A) (x : A) → new ≡ old ++ g x → left ≡ x ∷ rest → old ++ flat_map g left ≡ all → new ++ flat_map g rest ≡ all
each_added g old new all left rest x e steps inv = some_added old new (g x) (flat_map g left) (flat_map g rest) all e (ap (flat_map g) steps) inv

-- what holds of an answer follows from what holds of it
pub on_ok : {A E P Q : Type 0} (r : Result A E) → (P → Q) → OnOk r P → OnOk r Q
on_ok (Ok x) f h = f h
on_ok (Err e) f h = h
