use Rattle.std.proofs.Common.{◌∙◌}
use Rattle.guard_policy.specs.laws.Support.{conditions, until_met}
use Rattle.guard_policy.specs.World.{is_met_over, world_over}
use Rattle.guard_policy.proofs.SupportLemmas.{all_alike, denial_stays}
use Rattle.guard_policy.proofs.laws.a_denial_depends_on_what_decides.Goals as goal

pub returns : goal.returns
returns c = λ ns removed stores others decision denial by_first denied agree.
    let w = world_over ns removed stores in
    denial_stays w (is_met_over ns others) decision by_first (all_alike ns removed stores others (until_met w (conditions w decision)) agree) ∙ denied
