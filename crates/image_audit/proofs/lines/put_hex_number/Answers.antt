use Rattle.std.proofs.Common.{codes, refl}
use Rattle.image_audit.proofs.PieceLemmas.{past_last}
use Rattle.image_audit.proofs.lines.put_hex_number.Goals as goal

pub loop-rest-init : goal.loop-rest-init
loop-rest-init g c = record { front = codes "0x"; parts = refl; written = c.put.ensures }

pub loop-rest-preserved : goal.loop-rest-preserved
loop-rest-preserved g c = past_last c.loop-rest.rest.now c.in-len1-up.len_at_least c.loop-rest.invariant c.put_hex.ensures
