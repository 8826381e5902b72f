-- The ids of questions that a condition asks.
use Rattle.std.proofs.Common.{◌≡◌, ℕ, Bool, List, [], ◌∷◌, refl, sym, ap, ◌∙◌, inl, inr}
use Rattle.std.specs.Prelude.{filter}
use Rattle.std.proofs.lemmas.Bool.{cases_Bool, cond-false, cond-true}

-- Two tests that answer alike find the same.
pub same_filter : {p q : ℕ → Bool} → ((n : ℕ) → p n ≡ q n) → (ns : List ℕ) → filter p ns ≡ filter q ns
same_filter {p} {q} same [] = refl
same_filter {p} {q} same (n ∷ ns) = elim (cases_Bool (q n)) [
  | inl is ↦ cond-true (p n) _ _ (same n ∙ is) ∙ ap (λ (l : List ℕ). n ∷ l) (same_filter same ns) ∙ sym (cond-true (q n) _ _ is)
  | inr not ↦ cond-false (p n) _ _ (same n ∙ not) ∙ same_filter same ns ∙ sym (cond-false (q n) _ _ not)
]
