use Rattle.std.proofs.lemmas.Result.{on_ok_weaker}
use Rattle.check_audit.proofs.overlaps.add_overlaps.Goals as goal

pub returns : goal.returns
returns c = on_ok_weaker c.add_among.result (λ added. (c.in_ok-laid.laid.items, c.in_ok-laid.ensures, rw c.deref.ensures.value at added)) c.add_among.ensures
