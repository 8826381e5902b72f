use Rattle.std.proofs.Common.{◌∙◌, sym, subst, Option}
use Rattle.hii_bytes.specs.Watching.{Writes, pen_of}
use Rattle.hii_bytes.proofs.WritingLemmas.{◌⨾◌}
use Rattle.guard_policy.specs.declared.denial.Denial.{Denial}
use Rattle.question_audit.specs.QuestionLines.{verdict_columns}
use Rattle.question_audit.proofs.LineLemmas.{none_forbids, one_forbids}
use Rattle.question_audit.proofs.verdicts.put_verdict.Goals as goal

pub returns-in-Ok : goal.returns-in-Ok
returns-in-Ok g c = λ denied e.
    subst (λ (o : Option Denial). Writes (pen_of g.W.Write.contents c.args.out.now) (pen_of g.W.Write.contents c.put_spaces.new.self) (verdict_columns o))
    (sym (none_forbids _ denied (sym c.in-Ok.is ∙ e))) (c.put_left.ensures ⨾ c.put_spaces.ensures)

pub returns-in-Err : goal.returns-in-Err
returns-in-Err g c = λ denied e.
    subst (λ (o : Option Denial). Writes (pen_of g.W.Write.contents c.args.out.now) (pen_of g.W.Write.contents c.put_place.new.self) (verdict_columns o))
    (sym (one_forbids c.in-Err.denial denied (sym c.in-Err.is ∙ e)))
    (rw (c.from.ensures, c.as_bytes.ensures.value, c.name.ensures) at (c.put_left-in-Err.ensures ⨾ c.put.ensures ⨾ c.put_place.ensures))
