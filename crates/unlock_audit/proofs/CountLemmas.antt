-- Tries that are counted.
use Rattle.std.proofs.Common.{◌≡◌, ℕ, zero, suc, ◌+◌, ◌-◌, Bool, true, false, Option, Some, None, List, [], ◌∷◌, ◌++◌, length, refl, ap, ◌∙◌, inl, inr, arith}
use Rattle.std.specs.Prelude.{◌==◌, if◌then◌else◌, take}
use Rattle.std.specs.List.{find}
use Rattle.std.proofs.lemmas.Bool.{cases_Bool}
use Rattle.std.proofs.lemmas.Bool.Decides.{nat_tests}
use Rattle.unlock_audit.specs.Rising.{up_to}
use Rattle.unlock_audit.specs.code.Counting.{Tally, counted, is_done, with_tries, with_try}

module _ {X : Type 0} (test : X → Bool) where
  pub tries_append : (t : Tally X) (xs ys : List X) → with_tries test t (xs ++ ys) ≡ with_tries test (with_tries test t xs) ys
  tries_append t [] ys = refl
  tries_append t (x ∷ xs) ys = tries_append (with_try test t x) xs ys

  pub done_stays : (t : Tally X) (xs : List X) → is_done t ≡ true → with_tries test t xs ≡ t
  done_stays t [] d = refl
  done_stays t (x ∷ xs) d = rw d (done_stays t xs d)

  same_tally : {a b c d : ℕ} {o p : Option X} → a ≡ b → c ≡ d → o ≡ p → record { left = a; tried = c; found = o } ≡ (let t : Tally X = record { left = b; tried = d; found = p } in t)
  same_tally e f g = cc

  -- some were made, and none of them passes
  abbrev under_way : ℕ → ℕ → Tally X
  under_way left tried = record { left = left; tried = tried; found = None }

  -- what a list comes to
  abbrev ended : ℕ → ℕ → List X → Tally X
  ended left tried its = record { left = left - length its; tried = tried + length its; found = find test its }

  -- another one is made
  makes : (left tried : ℕ) (x : X) → with_try test (under_way (suc left) tried) x ≡ counted (under_way (suc left) tried) (if test x then Some x else None)
  makes left tried x = let not_none : (suc left == 0) ≡ false = grind (arith, nat_tests) in rw not_none refl

  passes : (left tried : ℕ) (x : X) (xs : List X) → test x ≡ true → with_tries test (with_try test (under_way (suc left) tried) x) xs ≡ ended (suc left) tried (up_to test (take (suc left) (x ∷ xs)))
  passes left tried x xs is =
      let one : with_try test (under_way (suc left) tried) x ≡ record { left = suc left - 1; tried = tried + 1; found = Some x } = makes left tried x ∙ rw is refl in
      let all : with_tries test (with_try test (under_way (suc left) tried) x) xs ≡ record { left = suc left - 1; tried = tried + 1; found = Some x } = ap (λ (t : Tally X). with_tries test t xs) one ∙ done_stays _ xs refl in
      all ∙ rw (is, is) (same_tally refl refl refl)

  fails : (left tried : ℕ) (x : X) (xs : List X) → test x ≡ false → with_tries test (under_way left (tried + 1)) xs ≡ ended left (tried + 1) (up_to test (take left xs))
      → with_tries test (with_try test (under_way (suc left) tried) x) xs ≡ ended (suc left) tried (up_to test (take (suc left) (x ∷ xs)))
  fails left tried x xs not more =
      let one : with_try test (under_way (suc left) tried) x ≡ under_way left (tried + 1) = makes left tried x ∙ rw not (same_tally (omega arith) refl refl) in
      ap (λ (t : Tally X). with_tries test t xs) one ∙ more ∙ rw (not, not) (same_tally (omega arith) (omega arith) refl)

  pub all_made : (left tried : ℕ) (xs : List X) → with_tries test (under_way left tried) xs ≡ ended left tried (up_to test (take left xs))
  all_made zero tried [] = same_tally (omega arith) (omega arith) refl
  all_made (suc left) tried [] = same_tally (omega arith) (omega arith) refl
  all_made zero tried (x ∷ xs) = done_stays (under_way 0 tried) xs refl ∙ same_tally (omega arith) (omega arith) refl
  all_made (suc left) tried (x ∷ xs) = elim (cases_Bool (test x)) [
    | inl is ↦ passes left tried x xs is
    | inr not ↦ fails left tried x xs not (all_made left (tried + 1) xs)
  ]
