use Rattle.std.proofs.Common.{◌≡◌, ◌++◌, length}
use Rattle.std.specs.List.{filter_map}
use Rattle.ifr_expr.specs.code.Expressions.{tree_of}
use Rattle.ifr_expr.specs.code.Supports.{ids_left}
use Rattle.ifr_nodes.specs.Nodes.{nodes_of}
use Rattle.check_audit.specs.Warnings.{asked_at, named_at}
use Rattle.check_audit.proofs.asks.add_named.Given as goal

-- with those of the ids that are left all are added
abbrev pub invariant-loop-id : goal.invariant-loop-id
invariant-loop-id l =
    l.warnings.items ++ filter_map (asked_at (nodes_of l.fn.questions.ifr) l.fn.place) (ids_left l.ids) ≡ l.fn.warnings.items ++ named_at (nodes_of l.fn.questions.ifr) l.fn.place (tree_of l.fn.expr)

abbrev pub decreases-loop-id : goal.decreases-loop-id
decreases-loop-id l = length (ids_left l.ids)
