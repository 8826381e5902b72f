use Rattle.std.proofs.lemmas.List.{take_rest}
use Rattle.image_audit.proofs.RunLemmas.{past_digits}
use Rattle.image_audit.proofs.runs.put_digits.Goals as goal

pub loop-rest-preserved : goal.loop-rest-preserved
loop-rest-preserved g c =
    let rest = c.loop-rest.rest.now in
    past_digits rest _ (take_rest rest 1) c.in-len1-up.len_at_least c.loop-rest.invariant c.put_hex.ensures
