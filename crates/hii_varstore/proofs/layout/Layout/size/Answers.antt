use Rattle.std.proofs.Common.{length, option_map, ap, sym, ◌∙◌, arith}
use Rattle.hii_varstore.specs.declared.buffer.Buffer.{Buffer}
use Rattle.hii_varstore.proofs.PlaceLemmas.{at_place, at_within, found_buffer, no_buffer}
use Rattle.hii_varstore.proofs.layout.Layout.size.Goals as goal

pub returns-in_err-place : goal.returns-in_err-place
returns-in_err-place c =
    let none = no_buffer 0 c.self.inside.table c.args.id (sym c.find.ensures ∙ c.in_err-place.was) in
    rw (c.from_residual.ensures, ← c.self.view_is) (sym (ap (option_map (λ (b : Buffer). b.size)) none))

pub offset_bounds-buffers-place : goal.offset_bounds-buffers-place
offset_bounds-buffers-place c =
    let here = at_place c.self.inside.table c.args.id c.in_ok-place.place (sym c.find.ensures ∙ c.in_ok-place.was) in
    omega (arith, at_within _ c.args.id c.in_ok-place.place here, ap length c.buffers.ensures.value, c.buffers.type_inv.1)

pub bounds-buffers-place : goal.bounds-buffers-place
bounds-buffers-place c =
    let here = at_place c.self.inside.table c.args.id c.in_ok-place.place (sym c.find.ensures ∙ c.in_ok-place.was) in
    omega (arith, at_within _ c.args.id c.in_ok-place.place here, ap length c.buffers.ensures.value)

pub returns : goal.returns
returns c =
    let none : Buffer = record { id = 0; size = 0 } in
    let here = at_place c.self.inside.table c.args.id c.in_ok-place.place (sym c.find.ensures ∙ c.in_ok-place.was) in
    let found = found_buffer c.self.inside.table c.args.id c.in_ok-place.place none here in
    rw (← c.self.view_is, c.buffers.ensures.value) (sym (ap (option_map (λ (b : Buffer). b.size)) found))
