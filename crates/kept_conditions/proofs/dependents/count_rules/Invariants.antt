use Rattle.std.proofs.Common.{◌≡◌, take}
use Rattle.kept_conditions.specs.code.Dependents.{rules_in}
use Rattle.kept_conditions.proofs.dependents.count_rules.Given as goal

-- the rules so far
abbrev pub invariant-loop-dependent : goal.invariant-loop-dependent
invariant-loop-dependent l = l.count ≡ rules_in (take l.dependent-index l.list)
