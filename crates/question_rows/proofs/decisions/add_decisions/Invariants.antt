use Rattle.std.proofs.Common.{◌≡◌, ◌++◌, ℕ, length, map}
use Rattle.ifr_nodes.specs.Nodes.{nodes_of}
use Rattle.hii_questions.specs.code.Views.{question_view}
use Rattle.guard_policy.specs.code.Views.{bytes_of}
use Rattle.question_rows.specs.code.Deciding.{decisions_on, told}
use Rattle.question_rows.proofs.decisions.add_decisions.Given as goal

-- the ids that are left are left to be added
abbrev pub invariant-loop-id : goal.invariant-loop-id
invariant-loop-id l =
    let q = question_view l.question in
    map told l.decisions.items ++ map (λ (k : ℕ). (k, q)) l.left ≡ map told l.fn.decisions.items ++ decisions_on l.fn.when (nodes_of (bytes_of l.policy)) q

abbrev pub decreases-loop-id : goal.decreases-loop-id
decreases-loop-id l = length l.left
