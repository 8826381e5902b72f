-- What the iterator over all conditions of questions has before it.
use Rattle.std.specs.Prelude.{List, map}
use Rattle.ifr_opcodes.specs.Forest.{Node}
use Rattle.ifr_nodes.specs.code.Checked.{node_in}
use Rattle.ifr_scopes.specs.declared.all_conditions.AllConditions.{AllConditions}

abbrev pub all_conditions_left : AllConditions → List Node
all_conditions_left it = map (λ kept. node_in it.ifr.now kept.place) it.kept.now
