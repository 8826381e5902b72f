use Rattle.std.proofs.Common.{◌≡◌, ◌+◌, ◌≤◌, ℕ, List, length, map, set, option_map, slice_range, Some, ap, sym, ◌∙◌, subst, arith}
use Rattle.hii_varstore.specs.Layout.{Shape}
use Rattle.hii_varstore.specs.Stores.{Store, StoreMap, buffer_of, shape_of, bytes_of_field, with_bytes}
use Rattle.hii_varstore.specs.code.Ranges.{HasRange}
use Rattle.hii_varstore.proofs.PlaceLemmas.{IsAt, store_at, place_within, found_bytes, range_is_some, range_within, kept_laid, put_is, given_back}
use Rattle.hii_varstore.proofs.WriteLemmas.{shape_after}
use Rattle.hii_varstore.proofs.stores.Stores.copy_range.Goals as goal
use Rattle.hii_varstore.proofs.stores.Stores.copy_range.Goals.{After-index, After-copy_range}

pub unwrap-place-requires : goal.unwrap-place-requires
unwrap-place-requires c =
    let bs = map buffer_of c.self.inside.stores.items in
    range_is_some bs c.args.id c.args.offset c.args.width c.find.result (rw (← c.self.invariant.laid) at c.find.ensures) (rw (← c.self.view_is) at c.requires.range)

pub index_mut-requires : goal.index_mut-requires
index_mut-requires c =
    let here = store_at c.self.inside.table c.self.inside.stores.items c.args.id c.unwrap-place.result c.self.invariant (sym c.find.ensures ∙ c.unwrap-place.ensures) in
    omega (arith, place_within c.self.inside.stores.items c.args.id c.unwrap-place.result here, c.self.inside.stores.ok.0)

pub index-requires : goal.index-requires
index-requires c =
    let here = store_at c.self.inside.table c.self.inside.stores.items c.args.id c.unwrap-place.result c.self.invariant (sym c.find.ensures ∙ c.unwrap-place.ensures) in
    let laid : map buffer_of c.self.inside.stores.items ≡ map buffer_of c.from.inside.stores.items = ap (λ (s : Shape). s.buffers) (rw (← c.self.view_is, ← c.from.view_is) at c.requires.same) in
    omega (arith, place_within c.from.inside.stores.items c.args.id c.unwrap-place.result (rw laid at here), c.from.inside.stores.ok.0)

-- the store of the id, and that of the others, are at the place
own : (c : After-index) → IsAt (map buffer_of c.self.inside.stores.items) c.args.id c.unwrap-place.result
own c = store_at c.self.inside.table c.self.inside.stores.items c.args.id c.unwrap-place.result c.self.invariant (sym c.find.ensures ∙ c.unwrap-place.ensures)

others : (c : After-index) → IsAt (map buffer_of c.from.inside.stores.items) c.args.id c.unwrap-place.result
others c =
    let laid : map buffer_of c.self.inside.stores.items ≡ map buffer_of c.from.inside.stores.items = ap (λ (s : Shape). s.buffers) (rw (← c.self.view_is, ← c.from.view_is) at c.requires.same) in
    rw laid at (own c)

pub copy_range-requires-clause-own : goal.copy_range-requires-clause-own
copy_range-requires-clause-own c =
    let here = own (goal.at.copy_range-requires-clause-own c).After-index in
    rw (← c.index_mut.ensures.value) at (range_within c.self.inside.stores.items c.args.id c.args.offset c.args.width c.unwrap-place.result c.index_mut.result.now here (rw (← c.self.view_is) at c.requires.range))

-- the range lies in the store of the others
within : (c : After-index) → c.args.offset + c.args.width ≤ length c.index.result.now.bytes
within c =
    let range = subst (λ (s : Shape). HasRange s c.args.id c.args.offset c.args.width) c.requires.same c.requires.range in
    rw (← c.index.ensures) at (range_within c.from.inside.stores.items c.args.id c.args.offset c.args.width c.unwrap-place.result c.index.result.now (others c) (rw (← c.from.view_is) at range))

pub copy_range-requires-clause-others : goal.copy_range-requires-clause-others
copy_range-requires-clause-others c = within (goal.at.copy_range-requires-clause-others c).After-index

pub invariant_of-self : goal.invariant_of-self
invariant_of-self c =
    rw c.copy_range.ensures (kept_laid c.self.inside.table c.self.inside.stores.items c.unwrap-place.result c.args.offset (slice_range c.index.result.now.bytes c.args.offset (c.args.offset + c.args.width)) c.index_mut.result.now c.self.invariant c.index_mut.ensures.value)

-- the stores hold the others' bytes of the range
put : (c : After-copy_range) → IsAt (map buffer_of c.self.inside.stores.items) c.args.id c.unwrap-place.result → record { guid = c.self.inside.guid; stores = set c.self.inside.stores.items c.unwrap-place.result c.copy_range.new.self }
    ≡ with_bytes c.args.self.now c.args.id c.args.offset (slice_range c.index.result.now.bytes c.args.offset (c.args.offset + c.args.width))
put c here =
    let ss = c.self.inside.stores.items in
    let bytes = slice_range c.index.result.now.bytes c.args.offset (c.args.offset + c.args.width) in
    ap (λ (s : Store). record { guid = c.self.inside.guid; stores = set ss c.unwrap-place.result s }) c.copy_range.ensures
    ∙ put_is c.self.inside.guid c.self.inside.table ss c.args.id c.unwrap-place.result c.args.offset bytes c.index_mut.result.now c.self.invariant here c.index_mut.ensures.value
    ∙ ap (λ (m : StoreMap). with_bytes m c.args.id c.args.offset bytes) c.self.view_is

pub returns-clause-copied : goal.returns-clause-copied
returns-clause-copied c =
    let a = goal.at.returns-clause-copied c in
    let range = λ (bytes : List ℕ). slice_range bytes c.args.offset (c.args.offset + c.args.width) in
    let found = rw (← c.index.ensures) at (found_bytes c.from.inside.stores.items c.args.id c.unwrap-place.result c.index.result.now (others a.After-index)) in
    let told : bytes_of_field c.args.from.now c.args.id c.args.offset c.args.width ≡ Some (range c.index.result.now.bytes) = rw (← c.from.view_is) (ap (option_map range) found) in
    rw told (put a.After-copy_range (own a.After-index))

pub returns-clause-shape : goal.returns-clause-shape
returns-clause-shape c =
    let a = goal.at.returns-clause-shape c in
    ap shape_of (put a.After-copy_range (own a.After-index)) ∙ shape_after c.args.self.now c.args.id c.args.offset (slice_range c.index.result.now.bytes c.args.offset (c.args.offset + c.args.width))

pub returns-clause-given_back : goal.returns-clause-given_back
returns-clause-given_back c = λ new size anew.
    let a = goal.at.returns-clause-given_back c in
    let m : StoreMap = record { guid = c.from.inside.guid; stores = c.from.inside.stores.items } in
    put a.After-copy_range (own a.After-index)
    ∙ given_back m c.args.self.now c.from.inside.table c.args.id c.unwrap-place.result c.args.offset c.args.width new c.index.result.now c.from.invariant (others a.After-index) c.index.ensures (within a.After-index) size (rw (← c.from.view_is) at anew)
    ∙ c.from.view_is
