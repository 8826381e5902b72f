-- Of what is warned, as it is told (UEFI 2.8, 33.3.8.3, EFI_IFR_WARNING_IF).
use Rattle.ifr_opcodes.specs.Forest.{Node}
use Rattle.ifr_nodes.specs.NodeExpressions.{message}
use Rattle.guard_policy.specs.declared.warnings.Warning.{Warning}

abbrev pub warning_of : Node → Warning
warning_of n = record { place = n.place; message = message n.op }
