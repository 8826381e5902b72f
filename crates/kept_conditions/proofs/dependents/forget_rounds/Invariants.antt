use Rattle.std.proofs.Common.{◌≡◌, ◌<◌, ℕ, map}
use Rattle.kept_conditions.specs.code.Dependents.{at_number, timeless}
use Rattle.kept_conditions.proofs.dependents.forget_rounds.Given as goal

abbrev pub invariant-loop-dependent : goal.invariant-loop-dependent
invariant-loop-dependent l = record { rounds : (k : ℕ) → k < l.dependent-index → (at_number l.list k).round ≡ 0; same : map timeless l.list ≡ map timeless l.fn.list }
