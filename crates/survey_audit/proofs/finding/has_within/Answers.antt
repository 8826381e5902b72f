use Rattle.std.proofs.Common.{◌∙◌, sym}
use Rattle.survey_audit.proofs.FoundLemmas.{stands_here}
use Rattle.survey_audit.proofs.finding.has_within.Goals as goal

pub returns : goal.returns
returns c = sym (stands_here c.loop-rest.rest.now c.args.letters.now (sym c.loop-rest-test.ensures.value)) ∙ c.loop-rest.invariant
