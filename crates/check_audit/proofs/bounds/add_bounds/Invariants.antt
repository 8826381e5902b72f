use Rattle.std.proofs.Common.{◌≡◌, ◌++◌, filter, length}
use Rattle.std.specs.List.{filter_map}
use Rattle.ifr_nodes.specs.Nodes.{nodes_of}
use Rattle.ifr_scopes.specs.code.Lists.{all_statements_left}
use Rattle.check_audit.specs.Warnings.{bounds_warnings, crossed_of, crossed_spans, is_crossed, numbered_bounds}
use Rattle.check_audit.proofs.bounds.add_bounds.Given as goal

-- with those of the statements that are left all are added, and numbered by how many are told
abbrev pub invariant-loop-statement : goal.invariant-loop-statement
invariant-loop-statement l =
    let ns = nodes_of l.fn.forms in
    let left = all_statements_left l.statements in
    record {
      spans : l.spans.items ++ filter_map crossed_of left ≡ crossed_spans ns;
      added : l.warnings.items ++ numbered_bounds (length l.spans.items) (filter is_crossed left) ≡ l.fn.warnings.items ++ bounds_warnings ns;
    }

abbrev pub decreases-loop-statement : goal.decreases-loop-statement
decreases-loop-statement l = length (all_statements_left l.statements)
