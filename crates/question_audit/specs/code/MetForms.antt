-- The forms that were met.
use Rattle.std.specs.Prelude.{List, map}
use Rattle.ifr_opcodes.specs.Forest.{Node}
use Rattle.ifr_scopes.specs.code.Lists.{form_node}
use Rattle.question_audit.specs.declared.reach.Met.{Met}

-- in the order in which they were
abbrev pub forms_met : Met → List Node
forms_met met = map form_node met.order.items
