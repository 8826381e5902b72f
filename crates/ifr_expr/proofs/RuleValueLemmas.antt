-- Values of rules that are kept while answers stay.
use Rattle.std.proofs.Common.{◌≡◌, ℕ, ◌<◌, ◌≤◌, Option, Some, None, List, length, map, set, get_or, refl, sym, ap, subst, ◌∙◌, arith, inl, inr, length-set}
use Rattle.std.specs.Prelude.{◌==◌, slice_get, option_map}
use Rattle.std.proofs.lemmas.Bool.{cases_eq, cases_lt, cond-true, cond-false, eq-eqb, ne_eqb}
use Rattle.std.proofs.lemmas.List.{get_or-set_same, get_or-set_other}
use Rattle.std.proofs.lemmas.List.Elements.{All-set}
use Rattle.std.proofs.lemmas.Option.{slice_get-map, slice_get_past, slice_get_within, slice_get-get_or, get_or_from_slice_get}
use Rattle.ifr_expr.specs.Meaning.{Rule, rule_values, value}
use Rattle.ifr_expr.specs.Values.{Value}
use Rattle.ifr_expr.specs.code.Rules.{AreOrdered}
use Rattle.ifr_expr.specs.code.RuleValues.{AddsValue, AreUpTo, AreValues, IsNumberOf, KeepsNothing, in_round, kept_operand, kept_under, known, rule_of_number}
use Rattle.ifr_expr.specs.code.Stacks.{operand_value}
use Rattle.ifr_expr.specs.declared.value.Operand.{Operand}
use Rattle.ifr_expr.specs.declared.rule_values.KeptValue.{KeptValue}
use Rattle.ifr_expr.proofs.RuleLemmas.{found_value}

-- ---- values over some answers

pub none_kept : (rules : List Rule) (answers : ℕ → Value) (kept : ℕ → Option Operand) → KeepsNothing kept → AreValues rules answers kept
none_kept rules answers kept nothing number operand r is there = let bad : Some operand ≡ None = sym is ∙ nothing number in absurd cc

-- what is kept under the number of the rule that a reference names is the value of the reference
pub kept_value : (rules : List Rule) (answers : ℕ → Value) (kept : ℕ → Option Operand) (id place number : ℕ) (operand : Operand) → AreOrdered rules → AreValues rules answers kept → IsNumberOf rules id place number → kept number ≡ Some operand
    → operand_value answers operand ≡ rule_values rules answers id place
kept_value rules answers kept id place number operand ordered are n is = are number operand n.rule is n.there ∙ sym (found_value rules answers id place n.rule ordered n.names)

some_same : (x y : Rule) → Some x ≡ Some y → x ≡ y
some_same x y e = cc

-- one value more
pub one_more : (rules : List Rule) (answers : ℕ → Value) (old new : ℕ → Option Operand) (id place number : ℕ) (operand : Operand) → AreOrdered rules → AreValues rules answers old → IsNumberOf rules id place number
    → operand_value answers operand ≡ rule_values rules answers id place → AddsValue number operand old new → AreValues rules answers new
one_more rules answers old new id place number operand ordered are n told adds other kept r is there = elim (adds other kept is) [
  | inl before ↦ are other kept r before there
  | inr here ↦
      let same : n.rule ≡ r = some_same n.rule r (sym n.there ∙ ap (rule_of_number rules) (sym here.0) ∙ there) in
      ap (operand_value answers) here.1 ∙ told ∙ found_value rules answers id place n.rule ordered n.names ∙ ap (λ (x : Rule). value rules answers 0 x.tree) same
]

-- ---- rounds

pub up_later : (low high : ℕ) (values : List KeptValue) → low ≤ high → AreUpTo low values → AreUpTo high values
up_later low high values le h k d less = omega (arith, h k d less)

before_round : (round : ℕ) (kept : KeptValue) → kept.round < round → in_round round kept ≡ None
before_round round kept less = cond-false (kept.round == round) (Some (kept_operand kept)) None (ne_eqb kept.round round (λ e. omega (arith, e, less)))

-- no value of an earlier round is kept
pub all_forgotten : (low round : ℕ) (values : List KeptValue) → low < round → AreUpTo low values → KeepsNothing (kept_under (map (in_round round) values))
all_forgotten low round values less up number = ap known (slice_get-map (in_round round) values number) ∙ go (slice_get values number) refl
  where
    go : (found : Option KeptValue) → slice_get values number ≡ found → known (option_map (in_round round) found) ≡ None
    go None is = refl
    go (Some kept) is =
        let there : get_or values number kept ≡ kept = get_or_from_slice_get values number kept kept is in
        let low_one : kept.round ≤ low = subst (λ (x : KeptValue). x.round ≤ low) there (up number kept (slice_get_within values number kept is)) in
        before_round round kept (omega (arith, low_one, less))

other_kept : (values : List KeptValue) (i j : ℕ) (v : KeptValue) → (j ≡ i → ⊥) → slice_get (set values i v) j ≡ slice_get values j
other_kept values i j v apart = elim (cases_lt j (length values)) [
  | inl inside ↦
      slice_get-get_or (set values i v) j v (omega (arith, inside, length-set values i v))
      ∙ ap (λ (x : KeptValue). Some x) (get_or-set_other values i j v v apart)
      ∙ sym (slice_get-get_or values j v inside)
  | inr past ↦ slice_get_past (set values i v) j (omega (arith, past, length-set values i v)) ∙ sym (slice_get_past values j past)
]

same_value : (x y : Operand) → Some x ≡ Some y → y ≡ x
same_value x y e = cc

-- a value that is kept in this round
pub value_added : (round number : ℕ) (values : List KeptValue) (operand : Operand) (new : KeptValue) → new.round ≡ round → kept_operand new ≡ operand → number < length values
    → AddsValue number operand (kept_under (map (in_round round) values)) (kept_under (map (in_round round) (set values number new)))
value_added round number values operand new found holds inside other kept is =
    let told : known (option_map (in_round round) (slice_get (set values number new) other)) ≡ Some kept = ap known (sym (slice_get-map (in_round round) (set values number new) other)) ∙ is in
    elim (cases_eq other number) [
      | inl same ↦
          let there : slice_get (set values number new) other ≡ Some new =
          ap (slice_get (set values number new)) same
          ∙ slice_get-get_or (set values number new) number new (omega (arith, inside, length-set values number new))
          ∙ ap (λ (x : KeptValue). Some x) (get_or-set_same values number new new inside) in
          let now : in_round round new ≡ Some operand = cond-true (new.round == round) (Some (kept_operand new)) None (eq-eqb new.round round found) ∙ ap (λ (x : Operand). Some x) holds in
          inr (same, same_value operand kept (sym now ∙ ap (λ (o : Option KeptValue). known (option_map (in_round round) o)) (sym there) ∙ told))
      | inr apart ↦ inl (ap known (slice_get-map (in_round round) values other) ∙ ap (λ (o : Option KeptValue). known (option_map (in_round round) o)) (sym (other_kept values number other new apart)) ∙ told)
    ]

-- a value more is no later one
pub up_with : (round number : ℕ) (values : List KeptValue) (new : KeptValue) → new.round ≡ round → AreUpTo round values → AreUpTo round (set values number new)
up_with round number values new found up = All-set (λ (x : KeptValue). x.round ≤ round) values number new (omega (arith, found)) up
