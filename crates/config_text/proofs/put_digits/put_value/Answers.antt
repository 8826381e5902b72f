use Rattle.std.proofs.Common.{◌<◌, length, rules}
use Rattle.hii_bytes.proofs.WritingLemmas.{past_piece}
use Rattle.config_text.proofs.WriteLemmas.{value_digits-last}
use Rattle.config_text.proofs.put_digits.put_value.Goals as goal

pub loop-rest-preserved : goal.loop-rest-preserved
loop-rest-preserved g c =
    let some : 0 < length c.loop-rest.rest.now = search rules in
    past_piece _ _ _ _ _ _ _ (value_digits-last c.loop-rest.rest.now some) c.loop-rest.invariant c.put_byte.ensures
