use Rattle.std.proofs.Common.{◌≡◌, length}
use Rattle.std.specs.List.{list_any}
use Rattle.hii_questions.specs.code.Views.{question_view}
use Rattle.form_page.specs.code.PageViews.{world_of}
use Rattle.question_audit.specs.Reasons.{all_reasons}
use Rattle.question_audit.specs.code.ReasonsLeft.{reasons_left}
use Rattle.unlock_audit.specs.Unlock.{is_removal}
use Rattle.unlock_audit.proofs.reasons.needs_new_run.Given as goal

-- one of those that are left is such, if one of all is
abbrev pub invariant-loop-reason : goal.invariant-loop-reason
invariant-loop-reason g l =
    list_any is_removal (reasons_left l.reasons) ≡ list_any is_removal (all_reasons (world_of l.page) (question_view l.question))

abbrev pub decreases-loop-reason : goal.decreases-loop-reason
decreases-loop-reason g l = length (reasons_left l.reasons)
