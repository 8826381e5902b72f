use Rattle.std.proofs.Common.{arith, drop}
use Rattle.std.proofs.lemmas.List.{drop_all}
use Rattle.image_audit.proofs.RunLemmas.{differing_none}
use Rattle.image_audit.proofs.runs.differing.Goals as goal

pub returns-else-count-other-clause-count : goal.returns-else-count-other-clause-count
returns-else-count-other-clause-count c =
    let inv = c.loop-count.invariant in
    omega (arith, inv.2, differing_none (drop c.loop-count.count c.args.one.now) _ (drop_all c.loop-count.count c.args.other.now c.if-count-other.false))
