use Rattle.std.proofs.Common.{◌≡◌, drop, map}
use Rattle.ifr_opcodes.specs.Fields.{question_id}
use Rattle.ifr_nodes.specs.Nodes.{nodes_of}
use Rattle.ifr_scopes.specs.code.Lists.{guard_node}
use Rattle.hii_questions.specs.code.Views.{question_node, question_view}
use Rattle.unlock_audit.specs.Moves.{constants_about}
use Rattle.unlock_audit.specs.code.Offered.{offered_near}
use Rattle.unlock_audit.proofs.values.add_constants.Given as goal

-- what is near to the constants of the conditions that are left is left to be added
abbrev pub invariant-loop-guard : goal.invariant-loop-guard
invariant-loop-guard l =
    let q = question_view l.numeric.question in
    let id = question_id (question_node l.numeric.question).op in
    offered_near q l.values.keys (constants_about (nodes_of l.forms) (map guard_node (drop l.guard-index l.conditions)) id)
    ≡ offered_near q l.fn.values.keys (constants_about (nodes_of l.forms) (map guard_node l.conditions) id)
