use Rattle.std.proofs.Common.{length}
use Rattle.std.specs.List.{flat_map}
use Rattle.hii_bytes.specs.Watching.{pen_of}
use Rattle.hii_bytes.specs.code.Writing.{Stands}
use Rattle.hii_questions.specs.code.Views.{question_view}
use Rattle.form_page.specs.code.PageViews.{world_of}
use Rattle.question_audit.specs.Reasons.{all_reasons, also_fact, also_facts}
use Rattle.question_audit.specs.code.ReasonsLeft.{reasons_left}
use Rattle.question_audit.proofs.reasons.put_also.Given as goal

-- the reasons before those that are left were written
abbrev pub invariant-loop-denial : goal.invariant-loop-denial
invariant-loop-denial g l =
    Stands (pen_of g.W.Write.contents l.fn.out) (pen_of g.W.Write.contents l.out) (also_facts (all_reasons (world_of l.page) (question_view l.question))) (flat_map also_fact (reasons_left l.reasons))

abbrev pub decreases-loop-denial : goal.decreases-loop-denial
decreases-loop-denial g l = length (reasons_left l.reasons)
