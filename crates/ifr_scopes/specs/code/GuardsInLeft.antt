-- What the iterator over the guards in the scope of a question has before it.
use Rattle.std.specs.Prelude.{nat_lt, List, map}
use Rattle.std.specs.List.{take_while}
use Rattle.ifr_opcodes.specs.Forest.{Node}
use Rattle.ifr_nodes.specs.code.Checked.{node_in}
use Rattle.ifr_scopes.specs.declared.guards_in.GuardsIn.{GuardsIn}

abbrev pub guards_in_left : GuardsIn → List Node
guards_in_left it = map (λ guard. node_in it.ifr.now guard.place)
    (take_while (λ guard. nat_lt guard.place it.ends) it.guards.now)
