use Rattle.hii_varstore.proofs.WriteLemmas.{shape_after}
use Rattle.hii_varstore.proofs.laws.a_write_keeps_the_shape.Goals as goal

pub returns : goal.returns
returns c = shape_after
