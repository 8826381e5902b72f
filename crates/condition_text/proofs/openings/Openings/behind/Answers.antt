use Rattle.condition_text.specs.code.OpeningsLeft.{openings_left}
use Rattle.condition_text.proofs.OpeningLemmas.{one_dropped}
use Rattle.condition_text.proofs.openings.Openings.behind.Goals as goal

pub loop-preserved : goal.loop-preserved
loop-preserved c = one_dropped (openings_left c.args.self) _ _ _ c.loop.counter c.loop.invariant c.next.ensures
