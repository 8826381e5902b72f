use Rattle.std.proofs.Common.{◌≡◌, ◌-◌, ◌≤◌}
use Rattle.ifr_nodes.specs.Nodes.{nodes_of}
use Rattle.hii_questions.specs.code.Views.{question_node}
use Rattle.guard_policy.specs.code.Views.{bytes_of}
use Rattle.unlock_audit.specs.Asking.{asking, numbers_from, with_behind}
use Rattle.unlock_audit.specs.code.Askings.{asking_meant}
use Rattle.unlock_audit.proofs.asking.Asking.of.Given as goal

-- the ids from the number on are left
abbrev pub invariant-loop-number : goal.invariant-loop-number
invariant-loop-number l =
    let ns = nodes_of (bytes_of l.policy) in
    record {
      few : l.number ≤ 64;
      left : with_behind ns (asking_meant l.asking) (numbers_from l.number) ≡ asking ns (question_node l.question);
    }

abbrev pub decreases-loop-number : goal.decreases-loop-number
decreases-loop-number l = 64 - l.number
