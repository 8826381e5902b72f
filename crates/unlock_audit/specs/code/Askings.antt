-- Conditions and the ids that they ask, as the code holds them.
use Rattle.std.specs.Prelude.{map}
use Rattle.ifr_scopes.specs.code.Lists.{guard_node}
use Rattle.unlock_audit.specs.Asking as spec
use Rattle.unlock_audit.specs.declared.asking.Asking.{Asking}

abbrev pub asking_meant : Asking → spec.Asking
asking_meant a = record { ids = a.ids.items; conditions = map guard_node a.conditions.items }
