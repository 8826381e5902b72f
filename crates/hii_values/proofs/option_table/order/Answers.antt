use Rattle.std.proofs.Common.{rules}
use Rattle.std.proofs.lemmas.Fn.{always_returns_same}
use Rattle.hii_values.specs.code.OptionPlaces.{value_at}
use Rattle.hii_values.proofs.OptionTableLemmas.{so_already, sorted_by_value}
use Rattle.hii_values.proofs.option_table.order.Goals as goal

pub returns-then-is_sorted_by_key : goal.returns-then-is_sorted_by_key
returns-then-is_sorted_by_key c =
    let bytes = c.args.ifr.now in
    let places = c.args.places.now in
    let sorted = c.is_sorted_by_key.ensures.cases (value_at bytes) (always_returns_same _ _ _ (λ a r g called. search rules)) in
    so_already bytes places (rw c.if-is_sorted_by_key.true at sorted)

pub returns : goal.returns
returns c =
    let bytes = c.args.ifr.now in
    let told = c.in_ok-sort_by_key.ensures in
    sorted_by_value bytes c.args.places.now c.sort_by_key.new.self told.permutation
    (told.sorted (value_at bytes) (always_returns_same _ _ _ (λ a r g called. search rules)))
    (told.stable (value_at bytes) (always_returns_same _ _ _ (λ a r g called. search rules)))
