use Rattle.std.proofs.Common.{◌≡◌, length}
use Rattle.std.specs.List.{list_any}
use Rattle.ifr_nodes.specs.Guards.{guards}
use Rattle.ifr_nodes.specs.Nodes.{nodes_of}
use Rattle.ifr_scopes.specs.code.Lists.{guards_left}
use Rattle.hii_questions.specs.code.Views.{question_node}
use Rattle.guard_policy.specs.code.Views.{bytes_of}
use Rattle.question_audit.specs.QuestionLines.{is_constant_at}
use Rattle.unlock_audit.proofs.reasons.is_constant.Given as goal

-- one of the guards that are left is such, if one of all is
abbrev pub invariant-loop-guard : goal.invariant-loop-guard
invariant-loop-guard l =
    let test = is_constant_at (nodes_of (bytes_of l.policy)) l.place in
    list_any test (guards_left l.guards) ≡ list_any test (guards (question_node l.question))

abbrev pub decreases-loop-guard : goal.decreases-loop-guard
decreases-loop-guard l = length (guards_left l.guards)
