use Rattle.std.proofs.Common.{subst, arith}
use Rattle.hii_bytes.specs.Watching.{pen_of, Writes}
use Rattle.hii_bytes.proofs.WritingLemmas.{◌⨾◌}
use Rattle.store_audit.proofs.FillingLemmas.{told_more}
use Rattle.store_audit.proofs.fillings.put_fillings.Goals as goal

pub loop-filling-preserved : goal.loop-filling-preserved
loop-filling-preserved g c =
    let before = pen_of g.W.Write.contents c.args.out.now in
    let after = pen_of g.W.Write.contents c.put_filling.new.out in
    let text = rw (← c.filling-item.is) at (told_more c.args.telling c.args.fillings.now c.loop-filling.filling-index c.filling-item.result (omega arith)) in
    subst (Writes before after) text (c.loop-filling.invariant ⨾ c.put_filling.ensures)
