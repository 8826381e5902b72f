-- The warnings that are left of a list.
use Rattle.std.specs.Prelude.{List, map, filter}
use Rattle.ifr_scopes.specs.code.ConditionsLeft.{conditions_of_left}
use Rattle.ifr_scopes.specs.declared.conditions_of.ConditionsOf.{ConditionsOf}
use Rattle.guard_policy.specs.code.Views.{world}
use Rattle.guard_policy.specs.World.{World, is_met}
use Rattle.guard_policy.specs.declared.warnings.Warning.{Warning}
use Rattle.guard_policy.specs.declared.warnings.Warnings.{Warnings}
use Rattle.guard_policy.specs.Warned.{warning_of}

-- what is warned of by those of some conditions that hold
abbrev pub warnings_among : World → ConditionsOf → List Warning
warnings_among w conditions = map warning_of (filter (is_met w) (conditions_of_left conditions))

-- the warnings that are left
abbrev pub warnings_left : Warnings → List Warning
warnings_left it = warnings_among (world it.policy it.stores.now) it.conditions
