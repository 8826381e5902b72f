use Rattle.std.proofs.Common.{◌≡◌, ℕ, Option, None, Some, List, [], ◌∷◌, length, get_or, refl, sym, ap, subst, ◌∙◌, arith, inl, inr}
use Rattle.std.proofs.lemmas.Bool.{cond-true, cond-false, cases_lt, lt-ltb, le-ltb, both_ways}
use Rattle.std.proofs.lemmas.List.Sums.{passes_at_first, fails_before_first}
use Rattle.std.specs.List.{position, position_or_len}
use Rattle.memchr.specs.Find.{places, TakesFirst}
use Rattle.memchr.proofs.lemmas.PlaceLemmas.{places_between-first, places_between-none}
use Rattle.hii_commands.specs.code.Lines.{ends_line}
use Rattle.browser_core.proofs.script.first_end.Goals as goal

led_by : (all later left : List ℕ) (k : ℕ) (found : Option ℕ) → all ≡ k ∷ later → TakesFirst all found left → found ≡ Some k
led_by all later left k None first taken = let bad : [] ≡ k ∷ later = sym taken.0 ∙ first in (cc)
led_by all later left k (Some at) first taken = ap (λ l. Some (get_or l 0 0)) (sym taken ∙ first)

led_by_none : (all left : List ℕ) (found : Option ℕ) → all ≡ [] → TakesFirst all found left → found ≡ None
led_by_none all left None none taken = refl
led_by_none all left (Some at) none taken = let bad : at ∷ left ≡ [] = sym taken ∙ none in (cc)

-- the first of all places of LFs
first_place : (bytes left : List ℕ) (found : Option ℕ) → TakesFirst (places ends_line bytes) found left → found ≡ position ends_line bytes
first_place bytes left found taken =
    let k = position_or_len ends_line bytes in
    elim (cases_lt k (length bytes)) [
      | inl some ↦
          let first = places_between-first ends_line bytes 0 (length bytes) k
          (record { low = omega arith; high = some; before = λ m low high passes. both_ways _ (fails_before_first ends_line bytes m 0 high) passes })
          (passes_at_first ends_line bytes 0 some) in
          led_by _ _ left k found first taken ∙ sym (cond-true _ _ _ (lt-ltb k (length bytes) some))
      | inr none ↦
          let nowhere = places_between-none ends_line bytes 0 (length bytes) (omega arith) (λ m low high passes. both_ways _ (fails_before_first ends_line bytes m 0 (omega (arith, none, high))) passes) in
          led_by_none _ left found nowhere taken ∙ sym (cond-false _ _ _ (le-ltb k (length bytes) none))
    ]

pub returns : goal.returns
returns c = first_place c.args.bytes.now c.next.new.self c.next.result (subst (λ all. TakesFirst all c.next.result c.next.new.self) c.memchr_iter.ensures.value c.next.ensures.steps)
