use Rattle.std.proofs.Common.{◌≡◌, ◌<◌, ◌+◌, ◌∷◌, ◌++◌, [], length, map, take, get_or, ap, sym, ◌∙◌, arith, inr}
use Rattle.std.specs.Int.{to_le_bytes, w16}
use Rattle.std.proofs.lemmas.List.{take_all, length-map}
use Rattle.std.proofs.lemmas.Grind.{common_steps}
use Rattle.std.proofs.lemmas.Result.{err_from_is_err_and}
use Rattle.hii_bytes.specs.declared.cause.Cause.TheVariants.{StoreCount}
use Rattle.hii_varstore.specs.declared.buffer.Buffer.{Buffer}
use Rattle.hii_varstore.specs.Stores.{Store, buffer_of}
use Rattle.hii_varstore.specs.Faults.{Told}
use Rattle.hii_varstore.proofs.TableLemmas.{few_of}
use Rattle.hii_varstore.proofs.ImageLemmas.{stores_fault, stores_more, laid_more, left_over}
use Rattle.hii_varstore.proofs.image.read_stores.Goals as goal

pub overflow_cast-count : goal.overflow_cast-count
overflow_cast-count c = omega (arith, few_of c.buffers-buffers.result.now c.args.table.now c.buffers-buffers.ensures.value c.buffers-buffers.ensures.sound)

pub returns-in_err-found-clause-wrong : goal.returns-in_err-found-clause-wrong
returns-in_err-found-clause-wrong c =
    let p = err_from_is_err_and c.from_residual-in_err-found.result c.from_residual-in_err-found.ensures.1 in
    let bs = c.buffers-buffers.result.now in
    let none : Buffer = record { id = 0; size = 0 } in
    let wrong = stores_fault bs c.loop-buffer.buffer-index none (Told (to_le_bytes w16 (length bs)) StoreCount) _ c.args.image.now c.args.place c.loop-buffer.end c.in_err-found.field-0.0 (omega arith) c.loop-buffer.invariant.read c.in_err-found.ensures.wrong in
    rw (p.1, p.2) (inr (rw c.buffers-buffers.ensures.value at wrong))

pub loop-buffer-preserved : goal.loop-buffer-preserved
loop-buffer-preserved c =
    let bs = c.buffers-buffers.result.now in
    let i = c.loop-buffer.buffer-index in
    let none : Buffer = record { id = 0; size = 0 } in
    let found = c.in_ok-found.found.now in
    let store : Store = record { id = (get_or bs i none).id; bytes = found } in
    let within : i < length bs = omega arith in
    let count = to_le_bytes w16 (length bs) in
    let items : c.push_store.new.stores.items ≡ c.loop-buffer.stores.items ++ store ∷ [] = grind (arith, common_steps) in
    let read = stores_more bs i none c.loop-buffer.stores.items found c.args.image.now count (Told count StoreCount) c.args.place c.loop-buffer.end within c.loop-buffer.invariant.read c.in_ok-found.ensures.read.0 in
    let end : c.loop-buffer.end + 4 + (get_or bs i none).size ≡ c.loop-buffer.end + (4 + length found) = omega (arith, c.in_ok-found.ensures.read.1) in
    rw items record {
      read = rw end at read;
      laid = laid_more bs i none c.loop-buffer.stores.items found within c.in_ok-found.ensures.read.1 c.loop-buffer.invariant.laid;
    }

pub returns-then-end-image-clause-wrong : goal.returns-then-end-image-clause-wrong
returns-then-end-image-clause-wrong c =
    let bs = c.buffers-buffers.result.now in
    let all : take c.loop-buffer.buffer-index bs ≡ bs = take_all c.loop-buffer.buffer-index bs (omega arith) in
    let read = rw all at c.loop-buffer.invariant.read in
    let wrong = left_over _ _ c.args.image.now c.args.place c.loop-buffer.end read (omega arith) in
    rw c.at.ensures (inr (rw c.buffers-buffers.ensures.value at wrong))

pub returns-clause-read : goal.returns-clause-read
returns-clause-read c =
    let bs = c.buffers-buffers.result.now in
    let all : take c.loop-buffer.buffer-index bs ≡ bs = take_all c.loop-buffer.buffer-index bs (omega arith) in
    let read = rw all at c.loop-buffer.invariant.read in
    let laid : map buffer_of c.loop-buffer.stores.items ≡ bs = c.loop-buffer.invariant.laid ∙ all in
    let count : length c.loop-buffer.stores.items ≡ length bs = sym (length-map c.loop-buffer.stores.items buffer_of) ∙ ap length laid in
    let end : c.loop-buffer.end ≡ length c.args.image.now = omega (arith, read.within) in
    rw (count, ← c.buffers-buffers.ensures.value) (rw end at read)
