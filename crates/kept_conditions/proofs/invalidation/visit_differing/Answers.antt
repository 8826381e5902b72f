use Rattle.std.proofs.Common.{◌≡◌, ◌+◌, ◌||◌, Bool, take, refl, sym, ap, ◌∙◌, arith}
use Rattle.kept_conditions.specs.Touching.{difference, has_one}
use Rattle.kept_conditions.specs.code.Index.{at_place, no_dependency, is_dependency, depends_on}
use Rattle.kept_conditions.proofs.VisitsSomeLemmas.{any_more, none_visited, one_more, same_ones}
use Rattle.kept_conditions.proofs.FilterLemmas.{one}
use Rattle.kept_conditions.proofs.WithinLemmas.{its_dependency, other_dependency, range_told}
use Rattle.kept_conditions.proofs.invalidation.visit_differing.Goals.{After-are_in, then-visit, else-visit}
use Rattle.kept_conditions.proofs.invalidation.visit_differing.Goals as goal

pub loop-dependency-init : goal.loop-dependency-init
loop-dependency-init c = record {
  one = c.between-differences.ensures.one;
  other = c.between-differences.ensures.other;
  visited = none_visited _ _ c.args.dependents.now (λ k less. refl);
  kept = c.requires.kept;
}

-- whether the dependency has a byte in which the stores differ
asked : (c : After-are_in) → let r = (at_place c.args.dependencies.now c.loop-dependency.dependency-index).field in c.are_in.result ≡ has_one (difference c.args.old.now c.args.new.now) r.store r.offset r.width
asked c =
    let told = rw (c.loop-dependency.invariant.one, c.loop-dependency.invariant.other) at c.are_in.ensures.differ in
    let field = (at_place c.args.dependencies.now c.loop-dependency.dependency-index).field in
    range_told (difference c.args.old.now c.args.new.now) c.are_in.result c.range.result field told c.range.ensures

pub loop-dependency-preserved-then-not-are_in : goal.loop-dependency-preserved-then-not-are_in
loop-dependency-preserved-then-not-are_in c =
    let rs = c.args.dependencies.now in
    let i = c.loop-dependency.dependency-index in
    let bytes = difference c.args.old.now c.args.new.now in
    record {
      one = c.are_in.ensures.one ∙ c.loop-dependency.invariant.one;
      other = c.are_in.ensures.other ∙ c.loop-dependency.invariant.other;
      visited = same_ones c.loop-dependency.invariant.visited (λ k less.
          any_more (is_dependency bytes k) rs i no_dependency c.loop-dependency-test.true
          ∙ ap (λ (b : Bool). b || depends_on bytes (take i rs) k)
          (other_dependency bytes (at_place rs i) k (sym (asked (goal.at.loop-dependency-preserved-then-not-are_in c).After-are_in) ∙ c.if-not-are_in.true)));
      kept = c.loop-dependency.invariant.kept;
    }

pub loop-dependency-preserved : goal.loop-dependency-preserved
loop-dependency-preserved c =
    let rs = c.args.dependencies.now in
    let i = c.loop-dependency.dependency-index in
    let bytes = difference c.args.old.now c.args.new.now in
    let sum : c.if-visit.count ≡ c.loop-dependency.count + one c.visit.result = elim c.if-visit.branch [ then-visit w ↦ omega (arith, w.count-is, ap one w.if-visit.true) | else-visit w ↦ omega (arith, w.count-is, ap one w.if-visit.false) ] in
    record {
      one = c.are_in.ensures.one ∙ c.loop-dependency.invariant.one;
      other = c.are_in.ensures.other ∙ c.loop-dependency.invariant.other;
      visited = one_more c.loop-dependency.invariant.visited (c.requires.numbers i no_dependency c.loop-dependency-test.true) c.visit.ensures.visits sum (λ k less.
          any_more (is_dependency bytes k) rs i no_dependency c.loop-dependency-test.true
          ∙ ap (λ (b : Bool). b || depends_on bytes (take i rs) k)
          (its_dependency bytes (at_place rs i) k (sym (asked (goal.at.loop-dependency-preserved c).After-are_in) ∙ c.if-not-are_in.false)));
      kept = c.visit.ensures.kept;
    }
