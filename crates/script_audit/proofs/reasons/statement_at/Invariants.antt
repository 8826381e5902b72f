use Rattle.std.proofs.Common.{◌≡◌, length}
use Rattle.std.specs.Prelude.{◌==◌, filter}
use Rattle.std.specs.List.{find}
use Rattle.ifr_opcodes.specs.Forest.{Node}
use Rattle.ifr_nodes.specs.Nodes.{is_statement, nodes_of}
use Rattle.ifr_scopes.specs.code.Lists.{all_statements_left}
use Rattle.script_audit.proofs.reasons.statement_at.Given as goal

-- the statements that were met stand at other places
abbrev pub invariant-loop-statement : goal.invariant-loop-statement
invariant-loop-statement l =
    let test = λ (n : Node). n.place == l.place in
    find test (all_statements_left l.statements) ≡ find test (filter is_statement (nodes_of l.forms))

abbrev pub decreases-loop-statement : goal.decreases-loop-statement
decreases-loop-statement l = length (all_statements_left l.statements)
