use Rattle.std.proofs.Common.{ap, sym, ◌∙◌}
use Rattle.guard_policy.specs.Policy.{hidden_among}
use Rattle.guard_policy.specs.code.Answers.{unless}
use Rattle.guard_policy.specs.code.Views.{world_by}
use Rattle.guard_policy.proofs.IndexedLemmas.{guards_there}
use Rattle.guard_policy.proofs.policy.Policy.seen_beside.Goals as goal

pub returns-in-Some-clause-seen : goal.returns-in-Some-clause-seen
returns-in-Some-clause-seen g c = λ n node indexed at.
    let policy = c.args.self.now in
    let w = world_by policy (g.V.Verdicts.met c.args.verdicts.now) in
    let there = guards_there policy.forms.now n c.args.place _ policy.accepted.checked.spelled node indexed at c.around_at-around.ensures.guards in
    ap unless (sym c.in-Some.is ∙ c.effects_beside.ensures.hides ∙ ap (hidden_among w) there)

pub returns-in-None-clause-seen : goal.returns-in-None-clause-seen
returns-in-None-clause-seen g c = λ n node indexed at.
    let policy = c.args.self.now in
    let w = world_by policy (g.V.Verdicts.met c.args.verdicts.now) in
    let there = guards_there policy.forms.now n c.args.place _ policy.accepted.checked.spelled node indexed at c.around_at-around.ensures.guards in
    ap unless (sym c.in-None.is ∙ c.effects_beside.ensures.hides ∙ ap (hidden_among w) there)
