-- What the iterator over the conditions of a question has before it.
use Rattle.std.specs.Prelude.{◌==◌, List, filter, map}
use Rattle.std.specs.List.{take_while}
use Rattle.ifr_opcodes.specs.Forest.{Node}
use Rattle.ifr_nodes.specs.code.Checked.{node_in}
use Rattle.ifr_index.specs.declared.index.ConditionEntry.{ConditionEntry}
use Rattle.ifr_scopes.specs.declared.conditions_of.ConditionsOf.{ConditionsOf}

-- the conditions of the question that are left, of any number
abbrev pub entries_left : ConditionsOf → List ConditionEntry
entries_left it = take_while (λ kept. kept.question == it.question) it.kept.now

abbrev pub conditions_of_left : ConditionsOf → List Node
conditions_of_left it = map (λ kept. node_in it.ifr.now kept.place)
    (filter (λ kept. kept.code == it.code) (entries_left it))
