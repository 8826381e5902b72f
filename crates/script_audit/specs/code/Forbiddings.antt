-- A condition that denies, by the nodes of its package.
use Rattle.ifr_scopes.specs.code.AnyConditions.{any_condition_node}
use Rattle.script_audit.specs.Because as spec
use Rattle.script_audit.specs.declared.because.Forbidding.{Forbidding}

abbrev pub forbidding_meant : Forbidding → spec.Forbidding
forbidding_meant it = record { state = it.state.now; condition = any_condition_node it.condition }
