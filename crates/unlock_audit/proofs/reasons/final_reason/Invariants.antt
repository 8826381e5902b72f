use Rattle.std.proofs.Common.{◌≡◌, length}
use Rattle.std.specs.List.{find}
use Rattle.ifr_nodes.specs.Nodes.{nodes_of}
use Rattle.hii_questions.specs.code.Views.{question_node, question_view}
use Rattle.guard_policy.specs.code.Views.{bytes_of}
use Rattle.form_page.specs.code.PageViews.{world_of}
use Rattle.question_audit.specs.Reasons.{all_reasons}
use Rattle.question_audit.specs.code.ReasonsLeft.{reasons_left}
use Rattle.unlock_audit.specs.Unlock.{is_final}
use Rattle.unlock_audit.proofs.reasons.final_reason.Given as goal

-- the first is among those that are left
abbrev pub invariant-loop-reason : goal.invariant-loop-reason
invariant-loop-reason g l =
    let test = is_final (nodes_of (bytes_of l.page.policy)) (question_node l.question) in
    find test (reasons_left l.reasons) ≡ find test (all_reasons (world_of l.page) (question_view l.question))

abbrev pub decreases-loop-reason : goal.decreases-loop-reason
decreases-loop-reason g l = length (reasons_left l.reasons)
