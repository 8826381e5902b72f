use Rattle.hii_bytes.proofs.laws.are_bytes.Goals as goal

pub returns : goal.returns
returns c k = (c.type_inv.bytes k).fits
