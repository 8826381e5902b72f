use Rattle.std.proofs.Common.{◌≡◌, ◌+◌, ℕ, List, length, map, option_map, slice_range, Some, refl, ap, sym, ◌∙◌, arith}
use Rattle.std.proofs.lemmas.List.Edits.{length-between}
use Rattle.hii_varstore.specs.Stores.{buffer_of, bytes_of_field, with_bytes}
use Rattle.hii_varstore.proofs.PlaceLemmas.{store_at, place_within, found_bytes, range_is_some, range_within, kept_laid, put_is}
use Rattle.hii_varstore.proofs.stores.Stores.field_mut.Goals as goal

pub unwrap-place-requires : goal.unwrap-place-requires
unwrap-place-requires c =
    let bs = map buffer_of c.self.inside.stores.items in
    range_is_some bs c.args.id c.args.offset c.args.width c.find.result (rw (← c.self.invariant.laid) at c.find.ensures) (rw (← c.self.view_is) at c.requires)

pub index_mut-store-requires : goal.index_mut-store-requires
index_mut-store-requires c =
    let here = store_at c.self.inside.table c.self.inside.stores.items c.args.id c.unwrap-place.result c.self.invariant (sym c.find.ensures ∙ c.unwrap-place.ensures) in
    omega (arith, place_within c.self.inside.stores.items c.args.id c.unwrap-place.result here, c.self.inside.stores.ok.0)

pub range_mut-requires : goal.range_mut-requires
range_mut-requires c =
    let ss = c.self.inside.stores.items in
    let here = store_at c.self.inside.table ss c.args.id c.unwrap-place.result c.self.invariant (sym c.find.ensures ∙ c.unwrap-place.ensures) in
    rw (← c.index_mut-store.ensures.value) at (range_within ss c.args.id c.args.offset c.args.width c.unwrap-place.result c.index_mut-store.result.now here (rw (← c.self.view_is) at c.requires))

pub invariant_of-self-lent : goal.invariant_of-self-lent
invariant_of-self-lent c =
    λ w. kept_laid c.self.inside.table c.self.inside.stores.items c.unwrap-place.result c.args.offset w c.index_mut-store.result.now c.self.invariant c.index_mut-store.ensures.value

pub returns : goal.returns
returns c =
    let ss = c.self.inside.stores.items in
    let store = c.index_mut-store.result.now in
    let here = store_at c.self.inside.table ss c.args.id c.unwrap-place.result c.self.invariant (sym c.find.ensures ∙ c.unwrap-place.ensures) in
    let found = rw (← c.index_mut-store.ensures.value) at (found_bytes ss c.args.id c.unwrap-place.result store here) in
    let put = λ (w : List ℕ). put_is c.self.inside.guid c.self.inside.table ss c.args.id c.unwrap-place.result c.args.offset w store c.self.invariant here c.index_mut-store.ensures.value in
    let range = λ (bytes : List ℕ). slice_range bytes c.args.offset (c.args.offset + c.args.width) in
    let value : bytes_of_field c.args.self.now c.args.id c.args.offset c.args.width ≡ Some c.range_mut.result.now = rw (← c.self.view_is, c.range_mut.ensures.value) (ap (option_map range) found) in
    let inside = rw (← c.index_mut-store.ensures.value) at (range_within ss c.args.id c.args.offset c.args.width c.unwrap-place.result store here (rw (← c.self.view_is) at c.requires)) in
    let size : length c.range_mut.result.now ≡ c.args.width = rw c.range_mut.ensures.value (length-between store.bytes c.args.offset (c.args.offset + c.args.width) inside ∙ omega arith) in
    ((refl, λ w. put w ∙ ap (λ m. with_bytes m c.args.id c.args.offset w) c.self.view_is), record { lends = tt; value = value; size = size })
