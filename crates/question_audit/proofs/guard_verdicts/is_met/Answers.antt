use Rattle.std.proofs.Common.{ap, ◌∙◌}
use Rattle.question_audit.proofs.GuardLemmas.{guard_told}
use Rattle.question_audit.proofs.guard_verdicts.is_met.Goals as goal

pub returns-in-Some : goal.returns-in-Some
returns-in-Some g c =
    let page = c.args.page in
    let guard = c.args.guard in
    let holding = g.C.Conditions.holding c.conditions.result.now in
    c.guard_holds.ensures ∙ ap holding c.place.ensures ∙ guard_told page.policy page.stores.now holding guard.ifr.now guard.place c.requires.package guard.stands c.requires.kept c.conditions.ensures

pub returns-in-None : goal.returns-in-None
returns-in-None g c =
    let page = c.args.page in
    let guard = c.args.guard in
    let holding = g.C.Conditions.holding c.conditions-in-None.result.now in
    c.holds.ensures ∙ ap holding c.place-in-None.ensures ∙ guard_told page.policy page.stores.now holding guard.ifr.now guard.place c.requires.package guard.stands c.requires.kept c.conditions-in-None.ensures
