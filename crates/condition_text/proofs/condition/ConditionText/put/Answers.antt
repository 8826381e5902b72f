use Rattle.std.proofs.Common.{ap}
use Rattle.hii_bytes.proofs.WritingLemmas.{Stands-all, past_piece}
use Rattle.condition_text.specs.code.Streams.{said}
use Rattle.condition_text.proofs.WriteLemmas.{written_as}
use Rattle.condition_text.proofs.StreamLemmas.{all_said}
use Rattle.condition_text.proofs.condition.ConditionText.put.Goals as goal

pub loop-op-preserved : goal.loop-op-preserved
loop-op-preserved g c = past_piece _ _ _ _ _ _ _ (ap said c.in-Some.ensures.steps) c.loop-op.invariant c.put_operator.ensures

pub returns : goal.returns
returns g c =
    written_as (Stands-all _ _ _ _ c.loop-op.invariant (ap said c.in_default.ensures.steps.0))
    (all_said _ c.args.self.now.expr.checked.means.fitting)
