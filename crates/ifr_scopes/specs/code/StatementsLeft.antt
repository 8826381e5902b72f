-- What the iterator over the statements of a form has before it.
use Rattle.std.specs.Prelude.{◌==◌, not, List, filter, map}
use Rattle.std.specs.List.{take_while}
use Rattle.ifr_opcodes.specs.declared.codes.TheConstants.{FORM}
use Rattle.ifr_opcodes.specs.Forest.{Node}
use Rattle.ifr_opcodes.specs.Rows.{is_statement_number}
use Rattle.ifr_nodes.specs.code.Checked.{node_in}
use Rattle.ifr_scopes.specs.declared.statements_of.StatementsOf.{StatementsOf}

abbrev pub statements_of_left : StatementsOf → List Node
statements_of_left it = map (λ kept. node_in it.ifr.now kept.place)
    (filter (λ kept. is_statement_number kept.code)
    (take_while (λ kept. not (kept.code == FORM)) it.kept.now))
