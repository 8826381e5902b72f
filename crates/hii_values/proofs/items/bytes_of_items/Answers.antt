use Rattle.std.proofs.Common.{ℕ, List, length, ap, arith, length-take}
use Rattle.hii_values.proofs.ItemLemmas.{items_within, front_more, front_all}
use Rattle.hii_values.proofs.items.bytes_of_items.Goals as goal

pub overflow_add-end : goal.overflow_add-end
overflow_add-end c =
    let within = items_within c.args.width c.args.bytes.now in
    let front = front_more c.loop-item.end _ _ c.args.width _ c.loop-item.invariant.counted (ap (λ (l : List ℕ). length l) c.in-Some.ensures.steps) in
    omega (arith, within, front)

pub slice_bounds-result-end : goal.slice_bounds-result-end
slice_bounds-result-end c =
    let within = items_within c.args.width c.args.bytes.now in
    let front = front_all c.loop-item.end _ c.args.width _ c.loop-item.invariant.counted (ap (λ (l : List ℕ). length l) c.in-None.ensures.steps.0) in
    omega (arith, within, front, length-take c.loop-item.end c.args.bytes.now)
