use Rattle.std.proofs.Common.{subst, arith}
use Rattle.sibt_strings.proofs.IdLemmas.{Left, left_all, left_behind, left_here, left_none}
use Rattle.sibt_strings.proofs.entry.entry_at.Goals as goal

pub walk-init : goal.walk-init
walk-init c = record {
  within = omega arith;
  left = λ whole are. subst (λ n. Left c.args.blocks.now n whole) (omega arith) (left_all c.args.blocks.now whole are);
}

pub returns-then-before-count : goal.returns-then-before-count
returns-then-before-count c = λ whole are.
    let l = c.walk.invariant.left whole are in
    left_here c.walk.rest.now _ whole _ _ c.args.id _ l c.in-Some.ensures.front (omega (arith, c.count_in-count.ensures, c.walk.invariant.within))
    (c.entry_in.ensures l.done (omega (arith, l.counted, c.walk.invariant.within)))

pub walk-preserved : goal.walk-preserved
walk-preserved c = record {
  within = omega arith;
  left = λ whole are.
      subst (λ n. Left c.in-Some.behind.now n whole) (omega (arith, c.count_in-count.ensures, c.walk.invariant.within))
      (left_behind c.walk.rest.now _ whole _ _ (c.walk.invariant.left whole are) c.in-Some.ensures.front).0;
}

pub returns : goal.returns
returns c = λ whole are. left_none c.walk.rest.now _ whole c.args.id (c.walk.invariant.left whole are) c.in_default.ensures (omega (arith, c.walk.invariant.within))
