-- Bytes and rules on which dependents depend, in order, and how those are found that overlap a write.
use Rattle.std.specs.Prelude.{◌≡◌, ◌⊎◌, ℕ, ◌+◌, ◌*◌, ◌%◌, ◌<◌, ◌≤◌, ◌^◌, ◌==◌, ◌&&◌, nat_lt, Bool, true, false, All, Option, Some, None, List, length, slice_get, slice_index_or, Contains}
use Rattle.std.specs.List.{list_any}
use Rattle.std.specs.List.Sorted.{IsNonDecreasingBy}
use Rattle.hii_questions.specs.code.Entries.{entry_range}
use Rattle.hii_questions.specs.code.Numbers as numbers
use Rattle.kept_conditions.specs.Touching.{has_one}
use Rattle.kept_conditions.specs.declared.index.Dependency.{Dependency}
use Rattle.kept_conditions.specs.declared.index.Gaps.{Gaps}
use Rattle.kept_conditions.specs.declared.index.Summary.{Summary}
use Rattle.kept_conditions.specs.declared.index.RuleUse.{RuleUse}

-- the number of its first byte, and the one behind the last
abbrev pub first_of : Dependency → ℕ
first_of r = numbers.first_of (entry_range r.field)

abbrev pub behind_of : Dependency → ℕ
behind_of r = numbers.behind_of (entry_range r.field)

-- a byte of the dependency is among those from a number on up to before another
abbrev pub overlaps : ℕ → ℕ → Dependency → Bool
overlaps from end r =
    nat_lt from end
    && (nat_lt (first_of r) (behind_of r)
    && (nat_lt (first_of r) end && nat_lt from (behind_of r)))

-- a dependency of nothing, and the dependency at a place
abbrev pub no_dependency : Dependency
no_dependency = record { field = record { store = 0; offset = 0; width = 0 }; dependent = 0 }

abbrev pub at_place : List Dependency → ℕ → Dependency
at_place rs k = slice_index_or rs k no_dependency

-- No dependency up to a place ends behind a number.
abbrev pub AllEndBy : List Dependency → ℕ → ℕ → Type 0
AllEndBy rs at reach = (j : ℕ) → j ≤ at → behind_of (at_place rs j) ≤ reach

-- A number is not before the first byte of the dependency at a place, nor 2^32 or more behind it.
pub record IsNear (rs : List Dependency) (at number : ℕ) : Type 0 where
  pub above : first_of (at_place rs at) ≤ number
  pub below : number < first_of (at_place rs at) + 2 ^ 32

-- No dependency of a block that is summed up ends behind its `to_end`, and none up to it behind its `to_reach`, both counted from the
-- first byte of the last.
pub record IsSummary (rs : List Dependency) (at : ℕ) (summary : Summary) : Type 0 where
  pub some : 1 ≤ summary.len
  pub within : summary.len ≤ at + 1
  pub below : (j : ℕ) → j ≤ at → at < j + summary.len
      → behind_of (at_place rs j) ≤ first_of (at_place rs at) + summary.to_end
  pub reached : AllEndBy rs at (first_of (at_place rs at) + summary.to_reach)

abbrev pub AreSummaries : List Dependency → List Summary → Type 0
AreSummaries rs summaries =
    (k : ℕ) → k < length summaries
    → IsSummary rs k (slice_index_or summaries k record { len = 0; to_end = 0; to_reach = 0 })

-- None of the dependencies from a place on up to before another overlaps these bytes.
abbrev pub NoneOverlaps : ℕ → ℕ → List Dependency → ℕ → ℕ → Type 0
NoneOverlaps from end rs low high =
    (j : ℕ) → low ≤ j → j < high → overlaps from end (at_place rs j) ≡ false

-- the last dependency before a place that overlaps these bytes, if one does
abbrev pub IsLastOverlapping : ℕ → ℕ → List Dependency → ℕ → Option ℕ → Type 0
IsLastOverlapping from end rs before None = NoneOverlaps from end rs 0 before
IsLastOverlapping from end rs before (Some k) =
    (k < before) × (overlaps from end (at_place rs k) ≡ true) × NoneOverlaps from end rs (k + 1) before

-- ---- bytes that no dependency has

-- No dependency has a byte from a number on up to before another.
abbrev pub NoneHas : List Dependency → ℕ → ℕ → Type 0
NoneHas rs from end =
    (j : ℕ) → j < length rs → (behind_of (at_place rs j) ≤ from) ⊎ (end ≤ first_of (at_place rs j))

-- No end of the first dependencies, of which there are so many, is above a number; and those behind do not begin before one.
abbrev pub EndBy : List Dependency → ℕ → ℕ → Type 0
EndBy rs count reach = (j : ℕ) → j < count → behind_of (at_place rs j) ≤ reach

abbrev pub BeginFrom : List Dependency → ℕ → ℕ → Type 0
BeginFrom rs count end = (j : ℕ) → count ≤ j → j < length rs → end ≤ first_of (at_place rs j)

-- the number of the first byte of a step, in 64 bits
abbrev pub step_start : ℕ → ℕ → ℕ → ℕ
step_start first power step = (first + (step * 2 ^ (power % 64)) % 2 ^ 64) % 2 ^ 64

-- No dependency has a byte of a step that is told to be one.
abbrev pub AreGapSteps : List Dependency → ℕ → ℕ → List Bool → Type 0
AreGapSteps rs first power steps =
    (step : ℕ) → slice_get steps step ≡ Some true
    → NoneHas rs (step_start first power step) (step_start first power (step + 1))

pub record AreGaps (rs : List Dependency) (gaps : Gaps) : Type 0 where
  pub after : BeginFrom rs 0 gaps.first
  pub before : EndBy rs (length rs) gaps.behind
  pub steps : AreGapSteps rs gaps.first gaps.power gaps.steps.items

-- The first bytes of the dependencies do not fall.
abbrev pub AreSorted : List Dependency → Type 0
AreSorted rs = IsNonDecreasingBy first_of rs

-- Each dependency is one of so many dependents.
abbrev pub HaveNumbers : ℕ → List Dependency → Type 0
HaveNumbers count rs = All (λ (r : Dependency). r.dependent < count) rs

-- Offsets have two bytes.
abbrev pub AreSmall : List Dependency → Type 0
AreSmall rs = All (λ (r : Dependency). r.field.offset < 65536) rs

-- ---- which dependents

-- the dependent of a number has a dependency that overlaps these bytes
abbrev pub is_hit : ℕ → ℕ → ℕ → Dependency → Bool
is_hit from end k r = r.dependent == k && overlaps from end r

abbrev pub hits : ℕ → ℕ → List Dependency → ℕ → Bool
hits from end rs k = list_any (is_hit from end k) rs

-- the dependent of a number depends on one of some bytes
abbrev pub is_dependency : (ℕ → ℕ → Bool) → ℕ → Dependency → Bool
is_dependency bytes k r = r.dependent == k && has_one bytes r.field.store r.field.offset r.field.width

abbrev pub depends_on : (ℕ → ℕ → Bool) → List Dependency → ℕ → Bool
depends_on bytes rs k = list_any (is_dependency bytes k) rs

-- ---- rule uses

-- The numbers of the rules do not fall.
abbrev pub RulesRise : List RuleUse → Type 0
RulesRise rule_uses = IsNonDecreasingBy (λ (l : RuleUse). l.rule) rule_uses

-- the dependent of a number uses a rule
abbrev pub uses : List RuleUse → ℕ → ℕ → Bool
uses rule_uses rule k = list_any (λ (l : RuleUse). l.rule == rule && l.dependent == k) rule_uses

-- ---- lists with the same elements

-- The new list has the elements of the old one, some of them less often.
pub record HasSame {X : Type 0} (old new : List X) : Type 0 where
  pub passes : (p : X → Bool) → list_any p new ≡ list_any p old
  pub within : (x : X) → Contains new x → Contains old x
