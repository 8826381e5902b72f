-- Lists of commands that grow, and how they are tried.
use Rattle.std.proofs.Common.{◌≡◌, Bool, true, false, List, [], ◌∷◌, ◌++◌, map, refl, sym, ap, ◌∙◌, inl, inr, append_assoc}
use Rattle.std.specs.Prelude.{filter}
use Rattle.std.specs.List.{flat_map}
use Rattle.std.proofs.lemmas.Bool.{cases_Bool}
use Rattle.unlock_audit.specs.code.Counting.{Tally, with_tries}
use Rattle.unlock_audit.proofs.CountLemmas.{tries_append}

mapped : {A B : Type 0} (f : A → B) (xs ys : List A) → map f (xs ++ ys) ≡ map f xs ++ map f ys
mapped f [] ys = refl
mapped f (x ∷ xs) ys = ap (λ l. f x ∷ l) (mapped f xs ys)

module _ {M X : Type 0} (ok : List M → Bool) (moves : List M) (f : List M → X) (test : X → Bool) where
  -- a list with each of some behind it
  abbrev ends : List M → List M → List (List M)
  ends ms list = map (λ m. list ++ m ∷ []) ms

  -- those of some lists that pass, with each behind them
  abbrev next : List (List M) → List (List M)
  next lists = flat_map (ends moves) (filter ok lists)

  next_ok : (l : List M) (ls : List (List M)) → ok l ≡ true → next (l ∷ ls) ≡ ends moves l ++ next ls
  next_ok l ls is = rw is refl

  next_no : (l : List M) (ls : List (List M)) → ok l ≡ false → next (l ∷ ls) ≡ next ls
  next_no l ls not = rw not refl

  next_append : (xs ys : List (List M)) → next (xs ++ ys) ≡ next xs ++ next ys
  next_append [] ys = refl
  next_append (x ∷ xs) ys = elim (cases_Bool (ok x)) [
    | inl is ↦ next_ok x (xs ++ ys) is ∙ ap (λ l. ends moves x ++ l) (next_append xs ys) ∙ sym (append_assoc (ends moves x) (next xs) (next ys)) ∙ ap (λ l. l ++ next ys) (sym (next_ok x xs is))
    | inr not ↦ next_no x (xs ++ ys) not ∙ next_append xs ys ∙ ap (λ l. l ++ next ys) (sym (next_no x xs not))
  ]

  -- what some come to, and then others
  both : (t : Tally X) (all xs ys : List (List M)) → all ≡ xs ++ ys → with_tries test t (map f all) ≡ with_tries test (with_tries test t (map f xs)) (map f ys)
  both t all xs ys e = ap (λ l. with_tries test t (map f l)) e ∙ ap (with_tries test t) (mapped f xs ys) ∙ tries_append test t (map f xs) (map f ys)

  pub two_ok : (t : Tally X) (list : List M) (m : M) (ms : List M) → ok (list ++ m ∷ []) ≡ true
      → with_tries test t (map f (next (ends (m ∷ ms) list))) ≡ with_tries test (with_tries test t (map f (ends moves (list ++ m ∷ [])))) (map f (next (ends ms list)))
  two_ok t list m ms is = both t (next (ends (m ∷ ms) list)) (ends moves (list ++ m ∷ [])) (next (ends ms list)) (next_ok (list ++ m ∷ []) (ends ms list) is)

  pub two_no : (t : Tally X) (list : List M) (m : M) (ms : List M) → ok (list ++ m ∷ []) ≡ false
      → with_tries test t (map f (next (ends (m ∷ ms) list))) ≡ with_tries test t (map f (next (ends ms list)))
  two_no t list m ms not = ap (λ l. with_tries test t (map f l)) (next_no (list ++ m ∷ []) (ends ms list) not)

  pub three_ok : (t : Tally X) (list : List M) (m : M) (ms : List M) → ok (list ++ m ∷ []) ≡ true
      → with_tries test t (map f (next (next (ends (m ∷ ms) list)))) ≡ with_tries test (with_tries test t (map f (next (ends moves (list ++ m ∷ []))))) (map f (next (next (ends ms list))))
  three_ok t list m ms is = both t (next (next (ends (m ∷ ms) list))) (next (ends moves (list ++ m ∷ []))) (next (next (ends ms list)))
      (ap next (next_ok (list ++ m ∷ []) (ends ms list) is) ∙ next_append (ends moves (list ++ m ∷ [])) (next (ends ms list)))

  pub three_no : (t : Tally X) (list : List M) (m : M) (ms : List M) → ok (list ++ m ∷ []) ≡ false
      → with_tries test t (map f (next (next (ends (m ∷ ms) list)))) ≡ with_tries test t (map f (next (next (ends ms list))))
  three_no t list m ms not = ap (λ l. with_tries test t (map f (next l))) (next_no (list ++ m ∷ []) (ends ms list) not)

-- all tries, one kind after the other
pub all_tried : {M X : Type 0} (test : X → Bool) (f : List M → X) (g : M → X) (t a b c d : Tally X) (ones twos threes : List (List M)) (moves : List M)
    → a ≡ with_tries test t (map f ones) → b ≡ with_tries test a (map f twos) → c ≡ with_tries test b (map f threes) → d ≡ with_tries test c (map g moves)
    → d ≡ with_tries test t (map f (ones ++ twos ++ threes) ++ map g moves)
all_tried test f g t a b c d ones twos threes moves is_a is_b is_c is_d =
    let one = with_tries test t (map f ones) in
    let two = with_tries test one (map f twos) in
    let three = with_tries test two (map f threes) in
    let made : c ≡ three = is_c ∙ ap (λ u. with_tries test u (map f threes)) (is_b ∙ ap (λ u. with_tries test u (map f twos)) is_a) in
    let first : with_tries test t (map f (ones ++ twos)) ≡ two = ap (with_tries test t) (mapped f ones twos) ∙ tries_append test t (map f ones) (map f twos) in
    let all : with_tries test t (map f (ones ++ twos ++ threes)) ≡ three = ap (with_tries test t) (mapped f (ones ++ twos) threes) ∙ tries_append test t (map f (ones ++ twos)) (map f threes) ∙ ap (λ u. with_tries test u (map f threes)) first in
    is_d ∙ ap (λ u. with_tries test u (map g moves)) (made ∙ sym all) ∙ sym (tries_append test t (map f (ones ++ twos ++ threes)) (map g moves))
