use Rattle.std.proofs.Common.{◌≡◌, ◌||◌, Bool, true, false, List, ◌∷◌, refl, sym, ap, ◌∙◌, subst, arith}
use Rattle.std.specs.Option.{IsSomeAnd}
use Rattle.hii_varstore.specs.Layout.{Shape}
use Rattle.hii_varstore.specs.Stores.{bytes_of_field, shape_of, with_bytes}
use Rattle.hii_varstore.specs.code.Ranges.{HasRange}
use Rattle.hii_questions.specs.declared.field_range.FieldRange.{FieldRange}
use Rattle.guard_policy.specs.code.Views.{world}
use Rattle.guard_policy.specs.code.Worlds.{is_met_at}
use Rattle.kept_conditions.specs.Touching.{difference}
use Rattle.kept_conditions.specs.code.Invalidation.{common, HaveRanges, AreAlikeOutside, in_range}
use Rattle.kept_conditions.specs.code.Dependents.{Reaches, was_visited}
use Rattle.kept_conditions.specs.code.Index.{depends_on}
use Rattle.kept_conditions.specs.declared.index.Dependency.{Dependency}
use Rattle.kept_conditions.proofs.CopyLemmas.{alike_still, split_different}
use Rattle.kept_conditions.proofs.VisitsSomeLemmas.{follows_then, visits_then}
use Rattle.kept_conditions.proofs.WithinLemmas.{alike_nowhere, depends_on_nothing, split_depends_on}
use Rattle.kept_conditions.proofs.invalidation.visit_ranges.Goals as goal

-- what is visited now joins what was visited
joined : (some left visited : Bool) → (left || (some || visited)) ≡ ((some || left) || visited)
joined true true visited = refl
joined true false visited = refl
joined false left visited = refl

pub loop-range-preserved : goal.loop-range-preserved
loop-range-preserved g c =
    let so_far = c.loop-range.invariant in
    let holding = is_met_at (world c.args.now.now.policy c.args.now.now.stores.now) in
    let start = c.args.dependents.now in
    let visited = c.loop-range.dependents in
    let new = c.visit_range-count.new.dependents in
    let rs = c.args.index.now.dependencies.items in
    let r = c.in-Some.range in
    let from = c.args.new.now in
    let old = c.loop-range.old in
    let rest = g.R.Ranges.ranges c.next.new.self in
    let ranges : HaveRanges (shape_of from) (r ∷ rest) = subst (HaveRanges (shape_of from)) c.in-Some.ensures so_far.inside in
    let alike : AreAlikeOutside (r ∷ rest) old from = subst (λ (l : List FieldRange). AreAlikeOutside l old from) c.in-Some.ensures so_far.alike in
    let shape : shape_of old ≡ shape_of from = so_far.shape ∙ c.requires.shape in
    let range : HasRange (shape_of old) r.store r.offset r.width = subst (λ (s : Shape). HasRange s r.store r.offset r.width) (sym shape) ranges.0 in
    let copied : IsSomeAnd (bytes_of_field from r.store r.offset r.width) (λ bytes. c.copy_range.new.self ≡ with_bytes old r.store r.offset bytes) = rw c.from.ensures at c.copy_range.ensures.copied in
    let some = common (difference old from) (in_range r) in
    let reaches : Reaches (depends_on some rs) visited new = subst (λ (l : List Dependency). Reaches (depends_on some l) visited new) c.deref.ensures.value c.visit_range-count.ensures.reaches in
    record {
      visits = visits_then holding start visited c.loop-range.count so_far.visits new c.visit_range-count.result c.visit_range-count.ensures.visits;
      left = λ k less.
          ap (λ (b : Bool). depends_on (difference c.copy_range.new.self from) rs k || b) (reaches k (omega (arith, less, so_far.visits.size)))
          ∙ joined (depends_on some rs k) (depends_on (difference c.copy_range.new.self from) rs k) (was_visited visited k)
          ∙ ap (λ (b : Bool). b || was_visited visited k) (sym (split_depends_on (difference old from) some (difference c.copy_range.new.self from) (split_different old from c.copy_range.new.self r shape range copied) rs k))
          ∙ so_far.left k less;
      follows = follows_then holding start visited c.loop-range.count so_far.visits new c.visit_range-count.result c.visit_range-count.ensures.visits so_far.follows c.visit_range-count.ensures.follows;
      shape = c.copy_range.ensures.shape ∙ so_far.shape;
      inside = ranges.1;
      alike = alike_still old from c.copy_range.new.self r shape range copied rest alike;
      kept = c.visit_range-count.ensures.kept;
    }

pub returns-clause-reaches : goal.returns-clause-reaches
returns-clause-reaches g c = λ k less.
    let so_far = c.loop-range.invariant in
    let rs = c.args.index.now.dependencies.items in
    let alike = subst (λ (l : List FieldRange). AreAlikeOutside l c.loop-range.old c.args.new.now) c.in_default.ensures.0 so_far.alike in
    sym (ap (λ (b : Bool). b || was_visited c.loop-range.dependents k) (depends_on_nothing (difference c.loop-range.old c.args.new.now) (alike_nowhere c.loop-range.old c.args.new.now (λ store at. alike store at tt)) rs k))
    ∙ so_far.left k less
