use Rattle.std.proofs.Common.{◌≤◌, arith}
use Rattle.std.proofs.lemmas.List.Elements.{AllWithin-more_set, AllWithin-none}
use Rattle.ifr_expr.specs.declared.rule_values.KeptValue.{KeptValue}
use Rattle.ifr_expr.proofs.rule_values.forget_rounds.Goals as goal

pub loop-kept-init : goal.loop-kept-init
loop-kept-init c = AllWithin-none (λ (kept : KeptValue). kept.round ≤ 0) c.args.values.now 0

pub loop-kept-preserved : goal.loop-kept-preserved
loop-kept-preserved c = AllWithin-more_set c.loop-kept.values c.loop-kept.kept-index _ (omega (arith, c.loop-kept-test.true, c.loop-kept.auto.values)) (λ (kept : KeptValue). kept.round ≤ 0) c.loop-kept.invariant (omega arith)
