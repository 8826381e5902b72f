use Rattle.std.proofs.Common.{◌++◌, length, take}
use Rattle.std.specs.List.{flat_map}
use Rattle.std.specs.Int.{to_le_bytes, w16}
use Rattle.hii_bytes.specs.Watching.{pen_of, Writes}
use Rattle.hii_varstore.specs.Image.{store_image}
use Rattle.hii_varstore.proofs.image.put_stores.Given as goal

-- the count and the stores so far are written
abbrev pub invariant-loop-store : goal.invariant-loop-store
invariant-loop-store g l =
    let text = to_le_bytes w16 (length l.stores) ++ flat_map store_image (take l.store-index l.stores) in
    Writes (pen_of g.W.Write.contents l.fn.out) (pen_of g.W.Write.contents l.out) text
