-- Which of some fields is the first that has a byte, told by steps.
use Rattle.std.specs.Prelude.{◌≡◌, ◌⊎◌, ℕ, zero, suc, ◌+◌, ◌≤◌, ◌<◌, ◌&&◌, min, Bool, false, nat_le, nat_lt, if◌then◌else◌, Option, Some, None, List, [], ◌∷◌, ⊤, length}
use Rattle.std.specs.List.{AllByRecursion}
use Rattle.hii_questions.specs.code.Entries.{entry_field}
use Rattle.hii_questions.specs.code.Numbers.{first_of, behind_of}
use Rattle.hii_questions.specs.declared.entry.QuestionEntry.{QuestionEntry}
use Rattle.hii_questions.specs.declared.field_range.FieldRange.{FieldRange}
use Rattle.hii_questions.specs.declared.merging.Step.{Step}

-- what steps tell of a byte: the number of the last step up to it, and what is before where it is before all
abbrev pub value_at : ℕ → List Step → ℕ → ℕ
value_at before [] at = before
value_at before (s ∷ ss) at = if nat_le s.from at then value_at s.first ss at else before

-- the number that is told behind so many steps
abbrev pub told_behind : ℕ → List Step → ℕ → ℕ
told_behind before ss zero = before
told_behind before [] (suc i) = before
told_behind before (s ∷ ss) (suc i) = told_behind s.first ss i

-- Each step is behind the one before it.
abbrev pub StepsRise : ℕ → List Step → Type 0
StepsRise from [] = ⊤
StepsRise from (s ∷ ss) = (from ≤ s.from) × StepsRise (s.from + 1) ss

-- A field has the byte of a number.
abbrev pub has_number : Option FieldRange → ℕ → Bool
has_number None at = false
has_number (Some f) at = nat_le (first_of f) at && nat_lt at (behind_of f)

-- the number of a field that has a byte
abbrev pub tells_first : ℕ → ℕ → Option FieldRange → ℕ → ℕ
tells_first none number field at = if has_number field at then number else none

-- the number of the first that has a byte, where they are numbered from one on
abbrev pub first_from : ℕ → ℕ → List QuestionEntry → ℕ → ℕ
first_from none number [] at = none
first_from none number (q ∷ qs) at =
    if has_number (entry_field q) at then number else first_from none (number + 1) qs at

-- the steps of a field of a number behind fields that end at a byte: its own, and before it one for the bytes between them
abbrev pub steps_behind : ℕ → ℕ → ℕ → ℕ → List Step
steps_behind none end from number =
    if nat_lt end from
    then record { from = end; first = none } ∷ record { from = from; first = number } ∷ []
    else record { from = from; first = number } ∷ []

-- the least number that steps tell, up to a byte
abbrev pub least_met : ℕ → ℕ → List Step → ℕ
least_met none end [] = none
least_met none end (s ∷ ss) = if nat_lt s.from end then min s.first (least_met none end ss) else none

-- Offsets have two bytes.
abbrev pub is_small : Option FieldRange → Type 0
is_small None = ⊤
is_small (Some f) = f.offset < 65536

abbrev pub AreSmall : List QuestionEntry → Type 0
AreSmall qs = AllByRecursion (λ (q : QuestionEntry). is_small (entry_field q)) qs

-- Steps tell of each byte the number of the first of some questions whose field has it, and how many there are where none has.
pub record AreSteps (qs : List QuestionEntry) (ss : List Step) : Type 0 where
  pub first : (at : ℕ) → value_at (length qs) ss at ≡ first_from (length qs) 0 qs at
  pub rise : StepsRise 0 ss
  pub small : AreSmall qs

-- A byte from one on up to before another, of which steps tell a number.
pub record IsTold (ss : List Step) (none from end number : ℕ) : Type 0 where
  pub at : ℕ
  pub low : from ≤ at
  pub high : at < end
  pub is : value_at none ss at ≡ number

-- the least number that steps tell of the bytes from one on up to before another
pub record IsLeastWithin (ss : List Step) (none from end number : ℕ) : Type 0 where
  pub least : (at : ℕ) → from ≤ at → at < end → number ≤ value_at none ss at
  pub told : (number ≡ none) ⊎ IsTold ss none from end number
