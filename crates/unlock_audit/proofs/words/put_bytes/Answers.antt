use Rattle.image_audit.proofs.PieceLemmas.{past_last}
use Rattle.unlock_audit.proofs.words.put_bytes.Goals as goal

pub loop-rest-preserved : goal.loop-rest-preserved
loop-rest-preserved g c = past_last c.loop-rest.rest.now c.in-len1-up.len_at_least c.loop-rest.invariant c.put_hex.ensures
