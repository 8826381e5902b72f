-- The options of a value are looked at one after the other.
use Rattle.std.proofs.Common.{◌≡◌, ℕ, Bool, true, false, ◌&&◌, ◌||◌, not, Option, Some, None, List, [], ◌∷◌, refl, sym, ap, ◌∙◌, inl, inr}
use Rattle.std.specs.Prelude.{is_none, if◌then◌else◌, filter, ◌==◌}
use Rattle.std.specs.List.{list_any}
use Rattle.std.specs.Option.{option_or}
use Rattle.std.proofs.lemmas.Bool.{cases_Bool, eqb-true, or_parts, and_right}
use Rattle.ifr_opcodes.specs.declared.codes.TheConstants.{ONE_OF_OPTION}
use Rattle.ifr_opcodes.specs.Fields.{option_value}
use Rattle.ifr_opcodes.specs.Forest.{Node}
use Rattle.ifr_opcodes.specs.Opcode.{number}
use Rattle.ifr_opcodes.specs.Rows.{row_of, is_question_number}
use Rattle.ifr_nodes.specs.Nodes.{is_option, is_question}
use Rattle.hii_values.specs.code.MetValues.{is_met, is_sought}
use Rattle.hii_values.specs.declared.met_values.MetValues.{MetValues}
use Rattle.hii_values.proofs.OptionTableLemmas.{has_one, one_filtered}
use Rattle.guard_policy.specs.Policy.{covered, fixed, all_fixed}
use Rattle.guard_policy.specs.World.{World}
use Rattle.guard_policy.specs.code.OpenValues.{opens}
use Rattle.guard_policy.specs.declared.denial.Denial.{Denial}
use Rattle.guard_policy.proofs.DenialLemmas.{or_nothing}

no_question : is_question_number ONE_OF_OPTION ≡ false
unfolding is_question_number row_of
no_question = refl

-- an option is fixed by what stands around it alone
pub option_fixed : (w : World) (o : Node) → is_option o ≡ true → fixed w o ≡ covered w o
option_fixed w o is =
    let none : is_question o ≡ false = ap is_question_number (eqb-true (number o.op) ONE_OF_OPTION is) ∙ no_question in
    rw none (or_nothing (covered w o))

-- what the options that are left come to, where those before them are all fixed, the first of them by this
abbrev pub standing : World → Option Denial → List Node → Option Denial
standing w None os = all_fixed w os
standing w (Some denial) os = if list_any (λ p. is_none (fixed w p)) os then None else Some denial

pub open_one : (w : World) (first : Option Denial) (o : Node) (rest : List Node) → fixed w o ≡ None → standing w first (o ∷ rest) ≡ None
open_one w None o rest e = rw e refl
open_one w (Some denial) o rest e = rw e refl

pub fixed_one : (w : World) (first : Option Denial) (o : Node) (rest : List Node) (denial : Denial) → fixed w o ≡ Some denial → standing w first (o ∷ rest) ≡ standing w (option_or first (Some denial)) rest
fixed_one w None o rest denial e = rw e refl
fixed_one w (Some before) o rest denial e = rw e refl

-- ---- values of which an option may be chosen

-- An option of a value that is not lacked adds nothing.
lacked_or_met : (met sought free : Bool) → (sought && not met) ≡ false → met ≡ (met || (sought && free))
lacked_or_met true sought free e = refl
lacked_or_met false true free e = absurd cc
lacked_or_met false false free e = refl

or_nothing_more : (met : Bool) → met ≡ (met || false)
or_nothing_more true = refl
or_nothing_more false = refl

pub not_lacked : (s : MetValues) (value v : ℕ) (free : Bool) → (is_sought s value && not (is_met s value)) ≡ false
    → is_met s v ≡ (is_met s v || (is_sought s v && ((value == v) && free)))
not_lacked s value v free e = elim (cases_Bool (value == v)) [
  | inl same ↦ rw same (lacked_or_met (is_met s v) (is_sought s v) free (ap (λ n. is_sought s n && not (is_met s n)) (sym (eqb-true value v same)) ∙ e))
  | inr other ↦ rw (other, and_right (is_sought s v) false refl) (or_nothing_more (is_met s v))
]

-- Neither does one that is fixed.
pub not_free : (s : MetValues) (value v : ℕ) (free : Bool) → free ≡ false → is_met s v ≡ (is_met s v || (is_sought s v && ((value == v) && free)))
not_free s value v free e = rw (e, and_right (value == v) false refl, and_right (is_sought s v) false refl) (or_nothing_more (is_met s v))

pub one_more : (met sought is more : Bool) → ((met || (sought && is)) || (sought && more)) ≡ (met || (sought && (is || more)))
one_more true sought is more = refl
one_more false false is more = refl
one_more false true is more = refl

opens_filtered : (w : World) (value : ℕ) (os : List Node) → list_any (opens w value) os ≡ list_any (λ o. is_none (fixed w o)) (filter (λ o. option_value o.op == value) os)
opens_filtered w value [] = refl
opens_filtered w value (o ∷ os) = elim (cases_Bool (option_value o.op == value)) [
  | inl same ↦ rw same (ap (λ b. is_none (fixed w o) || b) (opens_filtered w value os))
  | inr other ↦ rw other (opens_filtered w value os)
]

one_open : (w : World) (os : List Node) → list_any (λ o. is_none (fixed w o)) os ≡ (has_one os && is_none (all_fixed w os))
one_open w [] = refl
one_open w (o ∷ os) = elim (cases_Bool (list_any (λ p. is_none (fixed w p)) (o ∷ os))) [
  | inl some ↦ rw some refl
  | inr none ↦ rw none (sym (or_parts (is_none (fixed w o)) (list_any (λ p. is_none (fixed w p)) os) none).0)
]

-- An option of a value may be chosen where one has the value, and nothing denies it.
pub opens_closed : (w : World) (value : ℕ) (os : List Node)
    → list_any (opens w value) os ≡ (list_any (λ o. option_value o.op == value) os && is_none (all_fixed w (filter (λ o. option_value o.op == value) os)))
opens_closed w value os =
    opens_filtered w value os ∙ one_open w (filter (λ o. option_value o.op == value) os)
    ∙ ap (λ b. b && is_none (all_fixed w (filter (λ o. option_value o.op == value) os))) (sym (one_filtered value os))
