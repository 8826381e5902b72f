use Rattle.std.proofs.Common.{ap, ◌+◌}
use Rattle.check_audit.proofs.LackLemmas.{lack_added}
use Rattle.check_audit.proofs.lacks.Lacks.add.Goals as goal

pub loop-preserved : goal.loop-preserved
loop-preserved c = record {
  number = ap (λ n. n + 1) c.loop.invariant.number;
  added = lack_added c.as_slice-items.result.now c.loop.index c.loop.number c.loop.warnings.items c.push.new.self.items _ c.loop-test.true c.in_ok-push.ensures.items c.loop.invariant.added;
}
