use Rattle.std.proofs.Common.{◌≡◌, length}
use Rattle.std.specs.List.{list_any}
use Rattle.ifr_expr.specs.code.Expressions.{tree_of}
use Rattle.ifr_expr.specs.code.Names.{names_in}
use Rattle.ifr_expr.specs.code.NamesLeft.{names_left}
use Rattle.ifr_nodes.specs.Nodes.{nodes_of}
use Rattle.question_audit.specs.code.Leading.{leads}
use Rattle.question_audit.specs.code.Places.{has_place}
use Rattle.question_audit.proofs.decides_facts.leads.Given as goal

-- the names that were met are others
abbrev pub invariant-loop-name : goal.invariant-loop-name
invariant-loop-name l =
    let test = leads (nodes_of l.forms) (has_place l.rules) l.this l.id in
    list_any test (names_left l.names) ≡ list_any test (names_in (tree_of l.expression))

abbrev pub decreases-loop-name : goal.decreases-loop-name
decreases-loop-name l = length (names_left l.names)
