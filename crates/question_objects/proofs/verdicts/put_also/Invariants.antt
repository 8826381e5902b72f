use Rattle.std.proofs.Common.{codes, length, map}
use Rattle.hii_bytes.specs.Watching.{pen_of}
use Rattle.hii_questions.specs.code.Views.{question_view}
use Rattle.form_page.specs.code.PageViews.{world_of}
use Rattle.question_audit.specs.Reasons.{all_reasons, further}
use Rattle.question_audit.specs.code.ReasonsLeft.{reasons_left}
use Rattle.audit_json.proofs.ArrayLemmas.{Lists}
use Rattle.question_objects.specs.Verdicts.{reason_object}
use Rattle.question_objects.proofs.verdicts.put_also.Given as goal

-- the reasons before those that are left were written
abbrev pub invariant-loop-denial : goal.invariant-loop-denial
invariant-loop-denial g l =
    let all = all_reasons (world_of l.page) (question_view l.question) in
    Lists (codes "also") (map reason_object (further all)) (map reason_object (reasons_left l.reasons)) l.is_first (pen_of g.W.Write.contents l.fn.out) (pen_of g.W.Write.contents l.out)

abbrev pub decreases-loop-denial : goal.decreases-loop-denial
decreases-loop-denial g l = length (reasons_left l.reasons)
