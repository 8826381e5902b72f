use Rattle.std.proofs.Common.{◌≡◌, ◌++◌, length, map}
use Rattle.ifr_nodes.specs.Guards.{guards}
use Rattle.ifr_scopes.specs.code.Lists.{guard_node, guards_left}
use Rattle.hii_questions.specs.code.Views.{question_node}
use Rattle.unlock_audit.proofs.asking.add_around.Given as goal

-- the guards that are left are left to be added
abbrev pub invariant-loop-guard : goal.invariant-loop-guard
invariant-loop-guard l = map guard_node l.conditions.items ++ guards_left l.guards ≡ map guard_node l.fn.conditions.items ++ guards (question_node l.question)

abbrev pub decreases-loop-guard : goal.decreases-loop-guard
decreases-loop-guard l = length (guards_left l.guards)
