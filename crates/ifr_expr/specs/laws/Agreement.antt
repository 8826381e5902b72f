-- Answers that are alike in some questions.
use Rattle.std.specs.Prelude.{◌≡◌, ℕ, List}
use Rattle.std.specs.List.{AllByRecursion}
use Rattle.ifr_expr.specs.Meaning.{answered}
use Rattle.ifr_expr.specs.Values.{Value}

-- Two sets of answers agree on these questions.
abbrev pub Agree : (ℕ → Value) → (ℕ → Value) → List ℕ → Type 0
Agree a b ids = AllByRecursion (λ id. answered a id ≡ answered b id) ids
