use Rattle.std.proofs.Common.{◌≡◌, length}
use Rattle.std.specs.List.{list_any}
use Rattle.ifr_nodes.specs.Guards.{guards}
use Rattle.ifr_nodes.specs.Nodes.{nodes_of}
use Rattle.ifr_scopes.specs.code.Lists.{guards_left, statement_node}
use Rattle.guard_policy.specs.code.Views.{bytes_of}
use Rattle.question_audit.specs.QuestionLines.{is_constant_at}
use Rattle.question_audit.proofs.constant.is_constant.Given as goal

-- no guard that was met decides for good
abbrev pub invariant-loop-guard : goal.invariant-loop-guard
invariant-loop-guard g l =
    let bytes = bytes_of l.fn.page.policy in
    let test = is_constant_at (nodes_of bytes) l.denial.place in
    record {
      any : list_any test (guards_left l.guards) ≡ list_any test (guards (statement_node l.statement));
      own : l.guards.ifr.now ≡ bytes;
    }

abbrev pub decreases-loop-guard : goal.decreases-loop-guard
decreases-loop-guard g l = length (guards_left l.guards)
