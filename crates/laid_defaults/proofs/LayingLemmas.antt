-- Defaults that are laid.
use Rattle.std.proofs.Common.{◌≡◌, ◌+◌, ◌≤◌, ℕ, Bool, true, false, List, [], ◌∷◌, length, filter, inl, inr, refl, arith}
use Rattle.std.proofs.lemmas.Bool.{cases_Bool}
use Rattle.hii_questions.specs.Fields.{Asked}
use Rattle.laid_defaults.specs.Laying.{is_computed, is_of}

-- one more is met
pub one_more : (class : ℕ) (computed : Bool) (q : Asked) (left next : List Asked) → left ≡ q ∷ next → is_of computed class q ≡ true
    → length (filter (is_of computed class) left) ≡ length (filter (is_of computed class) next) + 1
one_more class computed q left next is among = rw (is, among) (omega arith)

-- no question is of both
pub both : (class : ℕ) (qs : List Asked) → length (filter (is_of false class) qs) + length (filter (is_of true class) qs) ≡ length qs
both class [] = refl
both class (q ∷ qs) = elim (cases_Bool (is_computed class q)) [
  | inl is ↦ rw is (omega (arith, both class qs))
  | inr other ↦ rw other (omega (arith, both class qs))
]

-- some are no more than all
pub some_of : (class : ℕ) (computed : Bool) (qs : List Asked) → length (filter (is_of computed class) qs) ≤ length qs
some_of class true qs = omega (arith, both class qs)
some_of class false qs = omega (arith, both class qs)
