use Rattle.std.proofs.Common.{◌≡◌, ◌-◌, ℕ, min, max, ◌+◌, length, sym, ap, ◌∙◌, inl, inr}
use Rattle.kept_conditions.specs.Touching.{difference}
use Rattle.kept_conditions.specs.code.Invalidation.{other_bytes, in_range}
use Rattle.kept_conditions.proofs.DifferenceLemmas.{none_differ, one_size}
use Rattle.kept_conditions.proofs.FirstLemmas.{some_differ}
use Rattle.kept_conditions.proofs.WithinLemmas.{fewer_bytes, other_store, parts_differ}
use Rattle.kept_conditions.proofs.differences.differ.Goals as goal

pub returns-then-field-within : goal.returns-then-field-within
returns-then-field-within c = sym (other_store (difference c.args.old.now c.args.new.now) c.args.field c.args.within c.if-field-within.true)

pub first_difference-requires-clause-same : goal.first_difference-requires-clause-same
first_difference-requires-clause-same c = one_size c.args.old.now c.args.new.now c.requires c.args.field.store c.in-Some-Some.old.now c.in-Some-Some.new.now c.in-Some-Some.ensures c.in-Some-Some.ensures'

pub returns-in-Some-Some : goal.returns-in-Some-Some
returns-in-Some-Some c =
    let xs = c.in-Some-Some.old.now in
    let ys = c.in-Some-Some.new.now in
    let low : c.from.result ≡ max c.args.field.offset c.args.within.offset = c.from.ensures ∙ c.max-from.ensures in
    let high : c.min-end.result ≡ min (min (c.args.field.offset + c.args.field.width) (length xs)) (min (c.args.within.offset + c.args.within.width) (length xs)) =
    c.min-end.ensures ∙ ap (λ (n : ℕ). min n c.end_within-in-Some-Some.result) c.end_within.ensures ∙ ap (min (min (c.args.field.offset + c.args.field.width) (length xs))) c.end_within-in-Some-Some.ensures in
    c.is_some.ensures ∙ some_differ xs ys c.from.result c.min-end.result c.first_difference.result c.first_difference.ensures ∙ ap (λ (from : ℕ). other_bytes xs ys from (c.min-end.result - from)) low ∙ ap (λ (to : ℕ). other_bytes xs ys (max c.args.field.offset c.args.within.offset) (to - max c.args.field.offset c.args.within.offset)) high
    ∙ parts_differ c.args.old.now c.args.new.now c.requires c.args.field c.args.within c.if-field-within.false xs ys c.in-Some-Some.ensures c.in-Some-Some.ensures'

pub returns-in_default : goal.returns-in_default
returns-in_default c =
    sym (fewer_bytes (difference c.args.old.now c.args.new.now) (in_range c.args.within) c.args.field.store c.args.field.offset c.args.field.width
    (none_differ c.args.old.now c.args.new.now c.requires c.args.field.store c.args.field.offset c.args.field.width (inr (sym c.in_default.ensures'))))

pub returns-in_default-2 : goal.returns-in_default-2
returns-in_default-2 c =
    sym (fewer_bytes (difference c.args.old.now c.args.new.now) (in_range c.args.within) c.args.field.store c.args.field.offset c.args.field.width
    (none_differ c.args.old.now c.args.new.now c.requires c.args.field.store c.args.field.offset c.args.field.width (inl (sym c.in_default.ensures))))
