use Rattle.guard_policy.specs.laws.Support.{conditions}
use Rattle.guard_policy.specs.World.{is_met_over, world_over}
use Rattle.guard_policy.proofs.SupportLemmas.{all_alike, denial_same, warning_same}
use Rattle.guard_policy.proofs.laws.a_decision_depends_on_its_questions_alone.Goals as goal

pub returns-clause-denied : goal.returns-clause-denied
returns-clause-denied c = λ ns removed stores others decision agree.
    let w = world_over ns removed stores in
    denial_same w (is_met_over ns others) decision (all_alike ns removed stores others (conditions w decision) agree)

pub returns-clause-warned : goal.returns-clause-warned
returns-clause-warned c = λ ns removed stores others decision agree.
    let w = world_over ns removed stores in
    warning_same w (is_met_over ns others) decision (all_alike ns removed stores others (conditions w decision) agree)
