use Rattle.std.proofs.Common.{◌≤◌}
use Rattle.std.specs.List.{AllWithin}
use Rattle.ifr_expr.specs.declared.rule_values.KeptValue.{KeptValue}
use Rattle.ifr_expr.proofs.rule_values.forget_rounds.Given as goal

abbrev pub invariant-loop-kept : goal.invariant-loop-kept
invariant-loop-kept l = AllWithin (λ (kept : KeptValue). kept.round ≤ 0) l.values 0 l.kept-index
