use Rattle.std.proofs.Common.{length, subst, arith}
use Rattle.std.specs.Int.{to_le_bytes, w16}
use Rattle.hii_bytes.specs.Watching.{pen_of, Writes}
use Rattle.hii_bytes.proofs.WritingLemmas.{◌⨾◌}
use Rattle.hii_varstore.proofs.ImageLemmas.{text_more}
use Rattle.hii_varstore.proofs.image.put_stores.Goals as goal

pub loop-store-preserved : goal.loop-store-preserved
loop-store-preserved g c =
    let before = pen_of g.W.Write.contents c.args.out.now in
    let after = pen_of g.W.Write.contents c.put_store.new.out in
    let ss = c.args.stores.now in
    let text = rw (← c.store-item.is) at (text_more ss c.loop-store.store-index c.store-item.result (to_le_bytes w16 (length ss)) (omega arith)) in
    subst (Writes before after) text (c.loop-store.invariant ⨾ c.put_store.ensures)
