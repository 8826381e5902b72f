-- Two lists of steps as one.
use Rattle.std.specs.Prelude.{ℕ, zero, suc, ◌+◌, ◌==◌, min, if◌then◌else◌, Option, Some, None, List, [], ◌∷◌, length}
use Rattle.std.specs.Option.{option_map_or}
use Rattle.hii_questions.specs.declared.merging.Step.{Step}
use Rattle.hii_questions.specs.declared.merging.Merge.{Merge}

-- past the step at a byte, where it is the next one: its number, and the steps that are left
abbrev pub passed : ℕ → ℕ → List Step → ℕ
passed from before [] = before
passed from before (s ∷ ss) = if s.from == from then s.first else before

abbrev pub behind : ℕ → List Step → List Step
behind from [] = []
behind from (s ∷ ss) = if s.from == from then ss else s ∷ ss

-- the byte of the next step of two lists
abbrev pub next_from : List Step → List Step → Option ℕ
next_from [] [] = None
next_from (s ∷ ss) [] = Some s.from
next_from [] (t ∷ ts) = Some t.from
next_from (s ∷ ss) (t ∷ ts) = Some (min s.from t.from)

-- the steps of two lists with the lesser of both numbers, at most so many
abbrev pub at_most : ℕ → ℕ → List Step → ℕ → List Step → List Step
at_most zero a ss b ts = []
at_most (suc n) a ss b ts = option_map_or (λ from. record { from = from; first = min (passed from a ss) (passed from b ts) }
    ∷ at_most n (passed from a ss) (behind from ss) (passed from b ts) (behind from ts)) (next_from ss ts) []

-- the steps that are left
abbrev pub merge_left : Merge → List Step
merge_left it =
    at_most (length it.left.steps.now + length it.right.steps.now) it.left.first it.left.steps.now it.right.first it.right.steps.now
