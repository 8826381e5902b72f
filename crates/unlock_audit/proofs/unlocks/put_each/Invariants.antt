use Rattle.std.proofs.Common.{◌≡◌, ◌≤◌, drop, map}
use Rattle.hii_bytes.specs.Watching.{pen_of}
use Rattle.hii_bytes.specs.code.Writing.{Stands}
use Rattle.hii_questions.specs.code.Views.{question_view}
use Rattle.unlock_audit.specs.Told.{each_told}
use Rattle.unlock_audit.specs.Unlock.{all_tries}
use Rattle.unlock_audit.proofs.unlocks.put_each.Given as goal

-- the questions before those that are left are told
abbrev pub invariant-loop-question : goal.invariant-loop-question
invariant-loop-question g l =
    let s = l.fn.browser.state in
    record {
      told : Stands (pen_of g.W.Write.contents l.fn.out) (pen_of g.W.Write.contents l.out) (each_told l.telling s all_tries (map question_view l.asked))
          (each_told l.telling s l.left (map question_view (drop l.question-index l.asked)));
      few : l.left ≤ all_tries;
      same : l.browser.state ≡ s;
    }
