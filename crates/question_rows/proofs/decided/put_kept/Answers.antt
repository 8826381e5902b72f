use Rattle.std.proofs.Common.{codes, refl}
use Rattle.hii_bytes.specs.Watching.{pen_of}
use Rattle.hii_questions.specs.code.Views.{question_view}
use Rattle.question_audit.specs.code.Pages.{audited}
use Rattle.question_rows.specs.Dependences.{decided_item}
use Rattle.question_rows.specs.declared.decisions.Decision.{Decision}
use Rattle.question_rows.proofs.DecidingLemmas.{drop_first}
use Rattle.question_rows.proofs.RunLemmas.{runs_end, runs_first, runs_next, runs_start}
use Rattle.question_rows.proofs.decided.put_kept.Goals as goal

pub loop-decision-init : goal.loop-decision-init
loop-decision-init g c =
    let item = λ (d : Decision). decided_item c.args.when (audited c.args.page) (question_view d.on) in
    runs_start (codes "<p class=\"small\">decides ") (codes ", ") c.args.is_first item (pen_of g.W.Write.contents c.args.out.now) c.args.decisions.now _ refl

pub loop-decision-preserved : goal.loop-decision-preserved
loop-decision-preserved g c =
    let item = λ (d : Decision). decided_item c.args.when (audited c.args.page) (question_view d.on) in
    runs_next item c.decision-item.result (drop_first c.args.decisions.now c.loop-decision.decision-index c.decision-item.result c.loop-decision-test.true c.decision-item.is) c.loop-decision.invariant c.put_before_item.ensures c.put_item.ensures
