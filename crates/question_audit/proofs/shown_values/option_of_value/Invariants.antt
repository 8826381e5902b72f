use Rattle.std.proofs.Common.{◌≡◌, length}
use Rattle.std.specs.Prelude.{◌==◌}
use Rattle.std.specs.List.{find}
use Rattle.ifr_opcodes.specs.Fields.{option_value}
use Rattle.ifr_opcodes.specs.Forest.{Node}
use Rattle.ifr_nodes.specs.Nodes.{options}
use Rattle.ifr_scopes.specs.code.Lists.{statement_node}
use Rattle.ifr_scopes.specs.code.OptionsLeft.{options_of_left}
use Rattle.question_audit.proofs.shown_values.option_of_value.Given as goal

-- the options that were met have other values
abbrev pub invariant-loop-option : goal.invariant-loop-option
invariant-loop-option l =
    let test = λ (o : Node). option_value o.op == l.value in
    find test (options_of_left l.options) ≡ find test (options (statement_node l.statement))

abbrev pub decreases-loop-option : goal.decreases-loop-option
decreases-loop-option l = length (options_of_left l.options)
