use Rattle.std.proofs.Common.{codes, drop, map}
use Rattle.hii_bytes.specs.Watching.{pen_of}
use Rattle.hii_questions.specs.code.Views.{question_view}
use Rattle.question_audit.specs.code.Pages.{audited}
use Rattle.question_rows.specs.Dependences.{decided_item}
use Rattle.question_rows.specs.declared.decisions.Decision.{Decision}
use Rattle.question_rows.proofs.RunLemmas.{Runs}
use Rattle.question_rows.proofs.decided.put_kept.Given as goal

-- those before the ones that are left were written
abbrev pub invariant-loop-decision : goal.invariant-loop-decision
invariant-loop-decision g l =
    let item = λ (d : Decision). decided_item l.when (audited l.page) (question_view d.on) in
    Runs (codes "<p class=\"small\">decides ") (codes ", ") l.is_first (map item l.decisions) l.is_next_first (map item (drop l.decision-index l.decisions)) (pen_of g.W.Write.contents l.fn.out) (pen_of g.W.Write.contents l.out)
