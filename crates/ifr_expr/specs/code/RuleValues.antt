-- Values of rules that are kept while answers stay.
use Rattle.std.specs.Prelude.{◌≡◌, ◌⊎◌, ℕ, ◌≤◌, ◌==◌, if◌then◌else◌, true, false, All, Option, Some, None, List, reverse, slice_get}
use Rattle.ifr_expr.specs.Meaning.{Rule, value}
use Rattle.ifr_expr.specs.Values.{Value}
use Rattle.ifr_expr.specs.code.Rules.{named}
use Rattle.ifr_expr.specs.code.Stacks.{operand_value}
use Rattle.ifr_expr.specs.declared.value.Operand.{Operand}
use Rattle.ifr_expr.specs.declared.value.Operand.TheVariants.{Made, Answer}
use Rattle.ifr_expr.specs.declared.value.Outcome.TheVariants as outcome
use Rattle.ifr_expr.specs.declared.rule_values.KeptValue.{KeptValue}
use Rattle.ifr_expr.specs.declared.rule_values.ValueKind.{ValueKind}
use Rattle.ifr_expr.specs.declared.rule_values.ValueKind.TheVariants as kind

-- the rule of a number, before which so many stand
abbrev pub rule_of_number : List Rule → ℕ → Option Rule
rule_of_number rules number = slice_get (reverse rules) number

-- A reference to an id at a place names the rule of a number.
pub record IsNumberOf (rules : List Rule) (id place number : ℕ) : Type 0 where
  pub rule : Rule
  pub names : named rules id place ≡ Some rule
  pub there : rule_of_number rules number ≡ Some rule

-- what is kept under a number, by what is kept of each rule
abbrev pub known : Option (Option Operand) → Option Operand
known None = None
known (Some kept) = kept

-- what is kept of each rule, by place
abbrev pub KnownValues : Type 0
KnownValues = List (Option Operand)

abbrev pub kept_under : KnownValues → ℕ → Option Operand
kept_under values number = known (slice_get values number)

-- What is kept under the number of a rule is the value of that rule over these answers.
abbrev pub AreValues : List Rule → (ℕ → Value) → (ℕ → Option Operand) → Type 0
AreValues rules answers kept =
    (number : ℕ) (operand : Operand) (r : Rule) → kept number ≡ Some operand
    → rule_of_number rules number ≡ Some r → operand_value answers operand ≡ value rules answers 0 r.tree

abbrev pub KeepsNothing : (ℕ → Option Operand) → Type 0
KeepsNothing kept = (number : ℕ) → kept number ≡ None

-- Nothing else is kept than before, but for what is now kept under a number.
abbrev pub AddsValue : ℕ → Operand → (ℕ → Option Operand) → (ℕ → Option Operand) → Type 0
AddsValue number operand old new =
    (other : ℕ) (kept : Operand) → new other ≡ Some kept
    → (old other ≡ Some kept) ⊎ ((other ≡ number) × (kept ≡ operand))

-- ---- rounds

-- a value of a kind, with this number, or with what this question answers
abbrev pub operand_of : ValueKind → ℕ → ℕ → Operand
operand_of kind.Undefined number question = Made outcome.Undefined
operand_of kind.True number question = Made (outcome.Boolean true)
operand_of kind.False number question = Made (outcome.Boolean false)
operand_of kind.Number number question = Made (outcome.Number number)
operand_of kind.Answer number question = Answer question

-- the value that is kept
abbrev pub kept_operand : KeptValue → Operand
kept_operand kept = operand_of kept.kind kept.number kept.question

-- what was kept of a rule in a round
abbrev pub in_round : ℕ → KeptValue → Option Operand
in_round round kept = if kept.round == round then Some (kept_operand kept) else None

-- None was kept in a later round.
abbrev pub AreUpTo : ℕ → List KeptValue → Type 0
AreUpTo round values = All (λ (kept : KeptValue). kept.round ≤ round) values
