use Rattle.std.proofs.Common.{◌≡◌, ◌++◌, take, length, arith, eqb-true, sym, ap, ◌∙◌, List, ℕ, append-nil}
use Rattle.std.proofs.lemmas.List.{take_at, take_all}
use Rattle.hii_values.specs.code.ItemsLeft.{items_left}
use Rattle.hii_values.proofs.met_values.first_values.Goals as goal

pub returns-then-is_full : goal.returns-then-is_full
returns-then-is_full c =
    let kept = c.loop-item.values.items in
    let left = items_left c.loop-item.item-iterator in
    let e = c.if-is_full.true in
    let f = c.is_full.ensures.value in
    sym (take_at kept left 255 (eqb-true (length kept) 255 (sym f ∙ e))) ∙ ap (take 255) c.loop-item.invariant.all

pub returns : goal.returns
returns c =
    let kept = c.loop-item.values.items in
    let none = c.in-None.ensures.steps.0 in
    let whole : kept ≡ items_left c.args.items = sym (append-nil kept) ∙ ap (λ (l : List ℕ). kept ++ l) (sym none) ∙ c.loop-item.invariant.all in
    whole ∙ sym (take_all 255 (items_left c.args.items) (let few = c.loop-item.invariant.few in let e = ap (length {A = ℕ}) whole in omega (arith, few, e)))
