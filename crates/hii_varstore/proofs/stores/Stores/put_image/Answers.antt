use Rattle.std.proofs.Common.{subst}
use Rattle.hii_bytes.specs.Watching.{pen_of, Writes}
use Rattle.hii_bytes.proofs.WritingLemmas.{◌⨾◌}
use Rattle.hii_varstore.specs.Stores.{StoreMap}
use Rattle.hii_varstore.specs.Image.{image_of}
use Rattle.hii_varstore.proofs.PlaceLemmas.{few_stores}
use Rattle.hii_varstore.proofs.stores.Stores.put_image.Goals as goal

pub returns : goal.returns
unfolding image_of
returns g c =
    let before = pen_of g.W.Write.contents c.args.out.now in
    let after = pen_of g.W.Write.contents c.put_stores.new.out in
    let written = rw c.deref.ensures.value at (c.put.ensures ⨾ c.put-2.ensures ⨾ c.put_stores.ensures) in
    subst (λ (m : StoreMap). Writes before after (image_of m)) c.self.view_is written

pub put_stores-requires : goal.put_stores-requires
put_stores-requires g c = rw c.deref.ensures.value (few_stores c.self.inside.table c.self.inside.stores.items c.self.invariant)
