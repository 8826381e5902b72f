use Rattle.std.proofs.Common.{◌≡◌, ◌≤◌, ◌+◌, ◌||◌, ℕ, Bool, length, drop, sym, ap, ◌∙◌, arith}
use Rattle.guard_policy.specs.code.RuleValues.{AreRuleValues}
use Rattle.guard_policy.specs.code.Views.{bytes_of, world}
use Rattle.guard_policy.specs.code.Worlds.{is_met_at}
use Rattle.kept_conditions.specs.Touching.{difference}
use Rattle.kept_conditions.specs.code.Invalidation.{common, in_range}
use Rattle.kept_conditions.specs.code.Dependents.{was_visited}
use Rattle.kept_conditions.specs.code.Index.{at_place, no_dependency, depends_on}
use Rattle.kept_conditions.proofs.VisitsSomeLemmas.{AreVisited, none_visited, one_more, same_ones}
use Rattle.kept_conditions.proofs.FilterLemmas.{one}
use Rattle.kept_conditions.proofs.WithinLemmas.{depends_behind, depends_more, depends_past, depends_skip, range_told}
use Rattle.kept_conditions.proofs.invalidation.visit_range.Goals.{After-visit}
use Rattle.kept_conditions.proofs.invalidation.visit_range.Goals as goal

pub loop-at-init : goal.loop-at-init
loop-at-init c = record {
  within = c.place_behind-before.ensures.bound;
  visited = none_visited _ _ c.args.dependents.now (λ k less.
      depends_behind (difference c.args.old.now c.args.new.now) c.args.range c.args.dependencies.now c.first-from.result c.behind-end.result c.first-from.ensures.number c.behind-end.ensures c.first-from.ensures.small c.requires.small
      c.place_behind-before.result k c.place_behind-before.ensures.bound c.place_behind-before.ensures.behind);
  kept = c.requires.kept;
}

pub loop-at-preserved-then-not-differ : goal.loop-at-preserved-then-not-differ
loop-at-preserved-then-not-differ c =
    let so_far = c.loop-at.invariant in
    let last = c.in-Some.ensures in
    let asked = range_told (common (difference c.args.old.now c.args.new.now) (in_range c.args.range)) c.differ.result c.range.result (at_place c.args.dependencies.now c.in-Some.at).field c.differ.ensures c.range.ensures in
    record {
      within = omega (arith, last.0, so_far.within);
      visited = same_ones so_far.visited (λ k less.
          depends_past (difference c.args.old.now c.args.new.now) c.args.range c.args.dependencies.now c.first-from.result c.behind-end.result c.first-from.ensures.number c.behind-end.ensures c.first-from.ensures.small c.requires.small
          c.in-Some.at c.loop-at.before k last.0 so_far.within last.2 (sym asked ∙ c.if-not-differ.true));
      kept = so_far.kept;
    }

-- one dependent more is visited
visited : (c : After-visit) (total : ℕ) → total ≡ c.loop-at.count + one c.visit.result → record {
  within : c.in-Some.at ≤ length c.args.dependencies.now;
  visited : AreVisited (is_met_at (world c.args.now.now.policy c.args.now.now.stores.now)) (depends_on (common (difference c.args.old.now c.args.new.now) (in_range c.args.range)) (drop c.in-Some.at c.args.dependencies.now)) c.args.dependents.now c.visit.new.self total;
  kept : AreRuleValues (bytes_of c.args.now.now.policy) c.args.now.now.stores.now c.visit.new.rules;
}
visited c total sum =
    let so_far = c.loop-at.invariant in
    let last = c.in-Some.ensures in
    let asked = range_told (common (difference c.args.old.now c.args.new.now) (in_range c.args.range)) c.differ.result c.range.result (at_place c.args.dependencies.now c.in-Some.at).field c.differ.ensures c.range.ensures in
    record {
      within = omega (arith, last.0, so_far.within);
      visited = one_more so_far.visited (c.requires.numbers c.in-Some.at no_dependency (omega (arith, last.0, so_far.within))) c.visit.ensures.visits sum (λ k less.
          depends_more (difference c.args.old.now c.args.new.now) c.args.range c.args.dependencies.now c.first-from.result c.behind-end.result c.first-from.ensures.number c.behind-end.ensures c.first-from.ensures.small c.requires.small
          c.in-Some.at c.loop-at.before k last.0 so_far.within last.2 (sym asked ∙ c.if-not-differ.false));
      kept = c.visit.ensures.kept;
    }

pub loop-at-preserved-then-visit : goal.loop-at-preserved-then-visit
loop-at-preserved-then-visit c = visited (goal.at.loop-at-preserved-then-visit c).After-visit (c.loop-at.count + 1) (omega (arith, ap one c.if-visit.true))

pub loop-at-preserved : goal.loop-at-preserved
loop-at-preserved c = visited (goal.at.loop-at-preserved c).After-visit c.loop-at.count (omega (arith, ap one c.if-visit.false))

pub returns-clause-reaches : goal.returns-clause-reaches
returns-clause-reaches c = λ k less.
    c.loop-at.invariant.visited.reaches k less
    ∙ ap (λ (b : Bool). b || was_visited c.args.dependents.now k) (sym
    (depends_skip (difference c.args.old.now c.args.new.now) c.args.range c.args.dependencies.now c.first-from.result c.behind-end.result c.first-from.ensures.number c.behind-end.ensures c.first-from.ensures.small c.requires.small
    0 c.loop-at.before k (omega arith) c.loop-at.invariant.within c.in_default.ensures))
