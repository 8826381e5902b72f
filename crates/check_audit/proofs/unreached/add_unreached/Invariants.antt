use Rattle.std.proofs.Common.{◌≡◌, ◌++◌, length}
use Rattle.std.specs.List.{filter_map}
use Rattle.ifr_nodes.specs.Nodes.{nodes_of}
use Rattle.ifr_scopes.specs.code.Lists.{forms_left}
use Rattle.check_audit.specs.Warnings.{is_named, unreached_at, unreached_warnings}
use Rattle.check_audit.proofs.unreached.add_unreached.Given as goal

-- with those of the forms that are left all are added
abbrev pub invariant-loop-form : goal.invariant-loop-form
invariant-loop-form l =
    l.warnings.items ++ filter_map (unreached_at (is_named (nodes_of l.fn.forms))) (forms_left l.left) ≡ l.fn.warnings.items ++ unreached_warnings (nodes_of l.fn.forms)

abbrev pub decreases-loop-form : goal.decreases-loop-form
decreases-loop-form l = length (forms_left l.left)
