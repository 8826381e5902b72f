use Rattle.std.proofs.Common.{◌≡◌, ◌+◌, List, Some, ℕ, map, option_map, slice_range, refl, ap, sym, ◌∙◌, subst, arith}
use Rattle.hii_varstore.specs.Layout.{Shape}
use Rattle.hii_varstore.specs.Stores.{buffer_of, bytes_of_field}
use Rattle.hii_varstore.specs.code.Ranges.{HasRange}
use Rattle.hii_varstore.proofs.PlaceLemmas.{IsAt, store_at, place_within, found_bytes, range_is_some, range_within}
use Rattle.hii_varstore.proofs.stores.Stores.differs.Goals as goal
use Rattle.hii_varstore.proofs.stores.Stores.differs.Goals.{After-unwrap-place, After-other}

pub unwrap-place-requires : goal.unwrap-place-requires
unwrap-place-requires c =
    let bs = map buffer_of c.self.inside.stores.items in
    range_is_some bs c.args.id c.args.offset c.args.width c.find.result (rw (← c.self.invariant.laid) at c.find.ensures) (rw (← c.self.view_is) at c.requires.range)

-- the store of the id, and that of the others, are at the place
own : (c : After-unwrap-place) → IsAt (map buffer_of c.self.inside.stores.items) c.args.id c.unwrap-place.result
own c = store_at c.self.inside.table c.self.inside.stores.items c.args.id c.unwrap-place.result c.self.invariant (sym c.find.ensures ∙ c.unwrap-place.ensures)

others : (c : After-other) → IsAt (map buffer_of c.other.inside.stores.items) c.args.id c.unwrap-place.result
others c =
    let laid : map buffer_of c.self.inside.stores.items ≡ map buffer_of c.other.inside.stores.items = ap (λ (s : Shape). s.buffers) (rw (← c.self.view_is, ← c.other.view_is) at c.requires.same) in
    rw laid at (store_at c.self.inside.table c.self.inside.stores.items c.args.id c.unwrap-place.result c.self.invariant (sym c.find.ensures ∙ c.unwrap-place.ensures))

pub index-requires : goal.index-requires
index-requires c = omega (arith, place_within c.self.inside.stores.items c.args.id c.unwrap-place.result (own c), c.self.inside.stores.ok.0)

pub index-requires-2 : goal.index-requires-2
index-requires-2 c = omega (arith, place_within c.other.inside.stores.items c.args.id c.unwrap-place.result (others c), c.other.inside.stores.ok.0)

pub differs-requires-clause-own : goal.differs-requires-clause-own
differs-requires-clause-own c =
    let at = goal.at.differs-requires-clause-own c in
    rw (← c.index.ensures) at (range_within c.self.inside.stores.items c.args.id c.args.offset c.args.width c.unwrap-place.result c.index.result.now (own at.After-unwrap-place) (rw (← c.self.view_is) at c.requires.range))

pub differs-requires-clause-others : goal.differs-requires-clause-others
differs-requires-clause-others c =
    let at = goal.at.differs-requires-clause-others c in
    let range = subst (λ (s : Shape). HasRange s c.args.id c.args.offset c.args.width) c.requires.same c.requires.range in
    rw (← c.index-2.ensures) at (range_within c.other.inside.stores.items c.args.id c.args.offset c.args.width c.unwrap-place.result c.index-2.result.now (others at.After-other) (rw (← c.other.view_is) at range))

pub returns : goal.returns
returns c =
    let at = goal.at.returns c in
    let range = λ (bytes : List ℕ). slice_range bytes c.args.offset (c.args.offset + c.args.width) in
    let here = rw (← c.index.ensures) at (found_bytes c.self.inside.stores.items c.args.id c.unwrap-place.result c.index.result.now (own at.After-unwrap-place)) in
    let there = rw (← c.index-2.ensures) at (found_bytes c.other.inside.stores.items c.args.id c.unwrap-place.result c.index-2.result.now (others at.After-other)) in
    let old : bytes_of_field c.args.self.now c.args.id c.args.offset c.args.width ≡ Some (range c.index.result.now.bytes) = rw (← c.self.view_is) (ap (option_map range) here) in
    let new : bytes_of_field c.args.other.now c.args.id c.args.offset c.args.width ≡ Some (range c.index-2.result.now.bytes) = rw (← c.other.view_is) (ap (option_map range) there) in
    c.differs.ensures ∙ sym (rw (old, new) refl)
