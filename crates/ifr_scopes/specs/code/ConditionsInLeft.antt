-- What the iterator over all conditions of a question has before it.
use Rattle.std.specs.Prelude.{◌==◌, List, map}
use Rattle.std.specs.List.{take_while}
use Rattle.ifr_opcodes.specs.Forest.{Node}
use Rattle.ifr_nodes.specs.code.Checked.{node_in}
use Rattle.ifr_scopes.specs.declared.conditions_in.ConditionsIn.{ConditionsIn}

abbrev pub conditions_in_left : ConditionsIn → List Node
conditions_in_left it = map (λ kept. node_in it.ifr.now kept.place)
    (take_while (λ kept. kept.question == it.question) it.kept.now)
