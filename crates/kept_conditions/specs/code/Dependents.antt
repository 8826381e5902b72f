-- Dependents in a round of visits, and where they stand among all.
use Rattle.std.specs.Prelude.{◌≡◌, ℕ, ◌+◌, ◌-◌, ◌<◌, ◌≤◌, ◌==◌, ◌&&◌, ◌||◌, if◌then◌else◌, Bool, true, false, not, All, List, [], ◌∷◌, ◌++◌, length, count_by, slice_index_or, slice_set, nat_lt}
use Rattle.std.specs.List.{list_any, prefix_len}
use Rattle.std.specs.Vec.{vec_capacity}
use Rattle.kept_conditions.specs.declared.index.RuleUse.{RuleUse}
use Rattle.kept_conditions.specs.declared.dependents.Dependent.{Dependent}
use Rattle.kept_conditions.specs.declared.dependents.Dependents.{Dependents}

abbrev pub no_dependent : Dependent
no_dependent = record { place = 0; round = 0; is_rule = false; holds = false }

-- the dependent of a number
abbrev pub at_number : List Dependent → ℕ → Dependent
at_number rs k = slice_index_or rs k no_dependent

-- but for the round in which it was visited
abbrev pub timeless : Dependent → Dependent
timeless r = record { place = r.place; round = 0; is_rule = r.is_rule; holds = r.holds }

abbrev pub is_condition : Dependent → Bool
is_condition r = not r.is_rule

-- it was visited in a round
abbrev pub is_of : ℕ → Dependent → Bool
is_of round r = r.round == round

-- the dependent, visited in a round: a condition is evaluated; what was visited in the round already stays
abbrev pub visited : (ℕ → Bool) → ℕ → Dependent → Dependent
visited holding round r =
    if is_of round r then r
    else record {
      place = r.place;
      round = round;
      is_rule = r.is_rule;
      holds = if r.is_rule then r.holds else holding r.place;
    }

-- None was visited in a round.
abbrev pub AreBefore : ℕ → List Dependent → Type 0
AreBefore round rs = (k : ℕ) → k < length rs → (at_number rs k).round < round

-- ---- dependents in a round

abbrev pub was_visited : Dependents → ℕ → Bool
was_visited rs k = is_of rs.round (at_number rs.list.items k)

abbrev pub is_pending : Dependents → ℕ → Bool
is_pending rs k = list_any (λ n. n == k) rs.pending.items

-- the rules, those of them that were visited, and the conditions that were
abbrev pub rules_in : List Dependent → ℕ
rules_in rs = count_by (λ (r : Dependent). r.is_rule) rs

abbrev pub visited_rules : Dependents → ℕ
visited_rules rs = count_by (λ (r : Dependent). r.is_rule && is_of rs.round r) rs.list.items

abbrev pub visited_conditions : Dependents → ℕ
visited_conditions rs = count_by (λ (r : Dependent). is_condition r && is_of rs.round r) rs.list.items

-- Pending rules were visited, none is pending twice, and there is room for all.
pub record HasRoom (rs : Dependents) : Type 0 where
  pub visited : (k : ℕ) → is_pending rs k ≡ true → (k < length rs.list.items) × (was_visited rs k ≡ true)
  pub some : length rs.pending.items ≤ visited_rules rs
  pub all : rules_in rs.list.items ≤ vec_capacity rs.pending

-- how often a rule may still be taken
abbrev pub turns : Dependents → ℕ
turns rs = length rs.pending.items + (rules_in rs.list.items - visited_rules rs)

-- The dependent of a number is visited, and a condition evaluated or not.
pub record VisitsOne (holding : ℕ → Bool) (number : ℕ) (old new : Dependents) (evaluated : Bool) : Type 0 where
  pub round : new.round ≡ old.round
  pub list : new.list.items
      ≡ slice_set old.list.items number (visited holding old.round (at_number old.list.items number))
  pub pending : new.pending.items
      ≡ old.pending.items
      ++ (if not (was_visited old number) && (at_number old.list.items number).is_rule
      then number ∷ [] else [])
  pub room : vec_capacity new.pending ≡ vec_capacity old.pending
  pub told : evaluated
      ≡ (not (was_visited old number) && is_condition (at_number old.list.items number))

-- Some dependents were visited, and so many conditions evaluated.
pub record VisitsSome (holding : ℕ → Bool) (old new : Dependents) (count : ℕ) : Type 0 where
  pub round : new.round ≡ old.round
  pub size : length new.list.items ≡ length old.list.items
  pub each : (k : ℕ) → k < length old.list.items
      → at_number new.list.items k
      ≡ (if was_visited new k then visited holding old.round (at_number old.list.items k)
      else at_number old.list.items k)
  pub more : (k : ℕ) → k < length old.list.items → was_visited old k ≡ true → was_visited new k ≡ true
  pub counted : visited_conditions old + count ≡ visited_conditions new
  pub room : HasRoom old → HasRoom new
  pub left : turns new ≤ turns old

-- These were visited, and those that were visited before.
abbrev pub Reaches : (ℕ → Bool) → Dependents → Dependents → Type 0
Reaches these old new =
    (k : ℕ) → k < length old.list.items → was_visited new k ≡ (these k || was_visited old k)

-- ---- rule uses

-- Rules are used by dependents.
abbrev pub AreRuleUses : List Dependent → List RuleUse → Type 0
AreRuleUses rs rule_uses =
    All (λ (l : RuleUse). (l.rule < length rs) × ((at_number rs l.rule).is_rule ≡ true) × (l.dependent < length rs)) rule_uses

-- Where a rule was visited, so were its dependents, but for those of some rules and of those that are pending.
abbrev pub Follow : (ℕ → Bool) → List RuleUse → Dependents → Type 0
Follow but rule_uses rs =
    All (λ (l : RuleUse). was_visited rs l.rule ≡ true
    → (but l.rule || (was_visited rs l.dependent || is_pending rs l.rule)) ≡ true) rule_uses

abbrev pub KeepsFollowing : Dependents → Dependents → Type 0
KeepsFollowing old new =
    (but : ℕ → Bool) (rule_uses : List RuleUse) → AreRuleUses old.list.items rule_uses
    → Follow but rule_uses old → Follow but rule_uses new

-- What holds of what was visited, and of the dependents of a rule of which it holds, holds of what is visited then.
abbrev pub KeepsSound : List RuleUse → Dependents → Dependents → Type 0
KeepsSound rule_uses old new =
    (these : ℕ → Bool) → All (λ (l : RuleUse). these l.rule ≡ true → these l.dependent ≡ true) rule_uses
    → ((k : ℕ) → k < length old.list.items → was_visited old k ≡ true → these k ≡ true)
    → (k : ℕ) → k < length old.list.items → was_visited new k ≡ true → these k ≡ true

-- ---- places

-- how many dependents stand before a place, up to the first that does not
abbrev pub passed : ℕ → List Dependent → ℕ
passed place dependents = prefix_len (λ (r : Dependent). nat_lt r.place place) dependents
