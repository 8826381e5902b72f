-- What the iterator over the statements of a form that give a default has before it.
use Rattle.std.specs.Prelude.{◌==◌, not, List, filter, map}
use Rattle.std.specs.List.{take_while}
use Rattle.ifr_opcodes.specs.declared.codes.TheConstants.{FORM}
use Rattle.ifr_opcodes.specs.Forest.{Node}
use Rattle.ifr_nodes.specs.code.Checked.{node_in}
use Rattle.ifr_index.specs.code.Giving.{gives_at}
use Rattle.ifr_scopes.specs.declared.giving.GivingStatements.{GivingStatements}

abbrev pub giving_left : GivingStatements → List Node
giving_left it = map (λ kept. node_in it.ifr.now kept.place)
    (filter (gives_at it.ifr.now)
    (take_while (λ kept. not (kept.code == FORM)) it.kept.now))
