use Rattle.std.proofs.Common.{sym, ◌∙◌, arith}
use Rattle.hii_varstore.proofs.PlaceLemmas.{store_at, place_within, found_bytes, no_bytes}
use Rattle.hii_varstore.proofs.stores.Stores.bytes.Goals as goal

pub returns-in_err-place : goal.returns-in_err-place
returns-in_err-place c =
    let none = no_bytes 0 c.self.inside.stores.items c.args.id (rw (← c.self.invariant.laid) at (sym c.find.ensures ∙ c.in_err-place.was)) in
    rw (c.from_residual.ensures, ← c.self.view_is) (sym none)

pub index-requires : goal.index-requires
index-requires c =
    let here = store_at c.self.inside.table c.self.inside.stores.items c.args.id c.in_ok-place.place c.self.invariant (sym c.find.ensures ∙ c.in_ok-place.was) in
    omega (arith, place_within c.self.inside.stores.items c.args.id c.in_ok-place.place here, c.self.inside.stores.ok.0)

pub returns : goal.returns
returns c =
    let ss = c.self.inside.stores.items in
    let here = store_at c.self.inside.table ss c.args.id c.in_ok-place.place c.self.invariant (sym c.find.ensures ∙ c.in_ok-place.was) in
    let found = found_bytes ss c.args.id c.in_ok-place.place c.index.result.now here in
    rw (← c.self.view_is, c.bytes.ensures.value) (sym (rw (← c.index.ensures) at found))
