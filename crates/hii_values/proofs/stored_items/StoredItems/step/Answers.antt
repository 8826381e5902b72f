use Rattle.std.proofs.Common.{ℕ, ◌∷◌, List, sym, ap, ◌∙◌, arith}
use Rattle.std.proofs.lemmas.List.{take_rest}
use Rattle.std.proofs.lemmas.Bool.{ne_eqb}
use Rattle.hii_bytes.specs.Numbers.{number_in}
use Rattle.hii_values.specs.Items.{items_in}
use Rattle.hii_values.proofs.ItemLemmas.{width_bounds, items_end, items_more}
use Rattle.hii_values.proofs.stored_items.StoredItems.step.Goals as goal

pub returns-then-item-eq0 : goal.returns-then-item-eq0
unfolding number_in
returns-then-item-eq0 c =
    let s = c.args.self.now in
    let bounds = width_bounds s.width s.wide in
    let told = c.in_ok-item.ensures in
    let none = items_end s.width s.bytes.now bounds.0 (omega (arith, told.0)) (sym told.1 ∙ c.if-item-eq0.true) in
    (none, none)

pub returns : goal.returns
unfolding number_in
returns c =
    let s = c.args.self.now in
    let bounds = width_bounds s.width s.wide in
    let told = c.in_ok-item.ensures in
    items_more s.width c.in_ok-item.item s.bytes.now bounds.0 (omega (arith, told.0)) (sym told.1) (ne_eqb c.in_ok-item.item 0 c.if-item-eq0.false)
    ∙ ap (λ (l : List ℕ). c.in_ok-item.item ∷ items_in s.width l) (sym (take_rest s.bytes.now s.width))
