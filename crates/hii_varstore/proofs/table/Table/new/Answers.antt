use Rattle.std.proofs.Common.{◌<◌, ◌≤◌, ◌∙◌, List, length, ap, sym, arith}
use Rattle.std.proofs.lemmas.List.{take_all}
use Rattle.hii_bytes.specs.code.IdTables.{number_with}
use Rattle.hii_bytes.specs.declared.id_table.IdEntry.{IdEntry}
use Rattle.hii_varstore.specs.declared.buffer.Buffer.{Buffer}
use Rattle.hii_varstore.proofs.TableLemmas.{entries_from, entries_more, found, small_place}
use Rattle.hii_varstore.proofs.table.Table.new.Goals as goal

pub overflow_cast-place : goal.overflow_cast-place
overflow_cast-place c =
    let within : c.loop-place.place < length c.args.buffers.items = omega (arith, ap length c.deref-buffer-items.ensures.value) in
    omega (arith, small_place c.args.buffers.items c.loop-place.place c.requires within)

pub loop-place-preserved : goal.loop-place-preserved
loop-place-preserved c =
    let none : Buffer = record { id = 0; size = 0 } in
    let within : c.loop-place.place < length c.args.buffers.items = omega (arith, ap length c.deref-buffer-items.ensures.value) in
    rw (c.in_ok-push.ensures.items, c.deref-buffer-items.ensures.value, c.loop-place.invariant) (sym (entries_more c.args.buffers.items c.loop-place.place none within))

pub invariant_of-result : goal.invariant_of-result
invariant_of-result c =
    let past : length c.args.buffers.items ≤ c.loop-place.place = omega (arith, ap length c.deref-buffer-items.ensures.value) in
    let all = c.loop-place.invariant ∙ ap (entries_from 0) (take_all c.loop-place.place c.args.buffers.items past) in
    record {
      indexed = λ id. c.in_ok-of.ensures id ∙ ap (λ (l : List IdEntry). number_with l id) all ∙ found c.args.buffers.items id;
      sound = c.requires;
    }
