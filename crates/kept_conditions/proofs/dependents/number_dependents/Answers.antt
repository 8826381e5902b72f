use Rattle.std.proofs.Common.{◌≡◌, ℕ, suc, ◌+◌, ◌∷◌, List, drop, get_or, refl, sym, ap, ◌∙◌, subst, slice_set, arith}
use Rattle.kept_conditions.specs.code.Dependents.{passed}
use Rattle.kept_conditions.proofs.LookupLemmas.{IsNextPlace, Precedes, all_replaced, next_place, next_there, one_more, passed_within, replaced}
use Rattle.kept_conditions.proofs.dependents.number_dependents.Goals.{After-first_from-next}
use Rattle.kept_conditions.proofs.dependents.number_dependents.Goals as goal

pub loop-place-init : goal.loop-place-init
loop-place-init c = record { same = refl; precedes = (0, omega arith, c.requires.places) }

pub first_from-next-requires : goal.first_from-next-requires
first_from-next-requires c =
    let low = c.loop-place.invariant.precedes in
    omega (arith, low.1, passed_within low.0 c.args.dependents.now)

module _ (c : After-first_from-next) where
  -- the place that is replaced, and those behind it
  abbrev place : ℕ
  place = get_or c.loop-place.places c.loop-place.place-index 0

  abbrev rest : List ℕ
  rest = drop (suc c.loop-place.place-index) c.args.places.now

  next : IsNextPlace c.loop-place.next c.args.dependents.now place rest
  next =
      next_place c.loop-place.next c.args.dependents.now (drop c.loop-place.place-index c.args.places.now) place rest c.requires.dependents
      (next_there (λ p. passed p c.args.dependents.now) c.loop-place.place-index c.args.places.now c.loop-place-test.true ∙ ap (λ (l : List ℕ). get_or l c.loop-place.place-index 0 ∷ rest) (sym c.loop-place.invariant.same))
      c.loop-place.invariant.precedes

  number_is : c.first_from-next.result ≡ passed place c.args.dependents.now
  number_is = c.first_from-next.ensures ∙ next.is

pub overflow_cast-place : goal.overflow_cast-place
overflow_cast-place c = omega (arith, (next c).few, number_is c)

pub loop-place-preserved : goal.loop-place-preserved
loop-place-preserved c =
    let f : ℕ → ℕ = λ p. passed p c.args.dependents.now in
    let i = c.loop-place.place-index in
    let ps = c.args.places.now in
    let more : suc i ≡ i + 1 = omega arith in
    record {
      same =
          ap (λ (k : ℕ). slice_set c.loop-place.places i k) (number_is c) ∙ ap (λ (l : List ℕ). slice_set l i (f (get_or l i 0))) c.loop-place.invariant.same
          ∙ one_more f i ps c.loop-place-test.true ∙ ap (λ (k : ℕ). replaced f k ps) more;
      precedes = subst (λ (k : ℕ). Precedes k c.args.dependents.now (drop (i + 1) ps)) (sym (number_is c)) (subst (λ (k : ℕ). Precedes (passed (place c) c.args.dependents.now) c.args.dependents.now (drop k ps)) more (next c).precedes);
    }

pub returns : goal.returns
returns c =
    let f : ℕ → ℕ = λ p. passed p c.args.dependents.now in
    c.loop-place.invariant.same ∙ ap (λ (k : ℕ). replaced f k c.args.places.now) (omega (arith, c.loop-place-test.false, c.loop-place.auto.place-index-end)) ∙ all_replaced f c.args.places.now
