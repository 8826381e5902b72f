use Rattle.std.proofs.Common.{sym, ap, ◌∙◌}
use Rattle.condition_text.proofs.WriteLemmas.{written_as}
use Rattle.guard_policy.proofs.DenialLemmas.{some_of}
use Rattle.question_objects.specs.Verdicts.{verdict_members}
use Rattle.question_objects.proofs.verdicts.put_verdict.Goals as goal

pub returns-in-Err : goal.returns-in-Err
returns-in-Err g c = λ denied e.
    let is = some_of denied c.in-Err.denial (sym e ∙ c.in-Err.is) in
    written_as c.put_denial.ensures (ap verdict_members (sym is))
