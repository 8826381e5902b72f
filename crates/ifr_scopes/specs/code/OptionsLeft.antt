-- What the iterator over the options of a question has before it.
use Rattle.std.specs.Prelude.{◌==◌, List, map}
use Rattle.std.specs.List.{take_while}
use Rattle.ifr_opcodes.specs.declared.codes.TheConstants.{ONE_OF_OPTION}
use Rattle.ifr_opcodes.specs.Forest.{Node}
use Rattle.ifr_nodes.specs.code.Checked.{node_in}
use Rattle.ifr_scopes.specs.declared.options_of.OptionsOf.{OptionsOf}

abbrev pub options_of_left : OptionsOf → List Node
options_of_left it = map (λ kept. node_in it.ifr.now kept.place)
    (take_while (λ kept. kept.code == ONE_OF_OPTION) it.kept.now)
