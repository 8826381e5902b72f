use Rattle.std.proofs.Common.{◌∙◌, ap, sym}
use Rattle.question_audit.proofs.LineLemmas.{none_forbids, one_forbids}
use Rattle.survey_audit.specs.Counts.{standing_of}
use Rattle.survey_audit.proofs.standing.Standing.of.Goals as goal

pub returns-in-Ok : goal.returns-in-Ok
returns-in-Ok c = λ denied e. sym (ap standing_of (none_forbids _ denied (sym c.in-Ok.is ∙ e)))

pub returns-in-Err : goal.returns-in-Err
returns-in-Err c = λ denied e. c.by_kind.ensures ∙ sym (ap standing_of (one_forbids c.in-Err.denial denied (sym c.in-Err.is ∙ e)))
