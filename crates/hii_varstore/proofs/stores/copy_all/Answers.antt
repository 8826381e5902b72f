use Rattle.std.proofs.Common.{arith}
use Rattle.hii_varstore.proofs.PlaceLemmas.{copy_more, copy_same}
use Rattle.hii_varstore.proofs.stores.copy_all.Goals as goal

pub copy_from-requires : goal.copy_from-requires
copy_from-requires c =
    copy_same c.args.stores.now c.args.others.now c.loop-place.stores c.loop-place.place c.index-stores-place.result c.index-others-place.result (omega arith) c.requires c.loop-place.invariant c.index-others-place.is

pub loop-place-preserved : goal.loop-place-preserved
loop-place-preserved c =
    rw c.copy_from.ensures (copy_more c.args.stores.now c.args.others.now c.loop-place.stores c.loop-place.place c.index-others-place.result (omega arith) c.requires c.loop-place.invariant c.index-others-place.is)
