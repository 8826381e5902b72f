use Rattle.std.proofs.Common.{ap, ◌∙◌}
use Rattle.guard_policy.specs.Policy.{hidden_among}
use Rattle.guard_policy.specs.code.Answers.{unless}
use Rattle.guard_policy.specs.code.Views.{world_by}
use Rattle.guard_policy.proofs.IndexedLemmas.{guards_there}
use Rattle.guard_policy.proofs.policy.Policy.seen_at.Goals as goal

pub returns-in-Some : goal.returns-in-Some
returns-in-Some g c = λ n node indexed at.
    let policy = c.args.self.now in
    let w = world_by policy (g.V.Verdicts.met c.args.verdicts.now) in
    let there = guards_there policy.forms.now n c.args.place _ policy.accepted.checked.spelled node indexed at c.around_at.ensures.guards in
    ap unless (c.in-Some.ensures ∙ ap (hidden_among w) there)

pub returns-in-None : goal.returns-in-None
returns-in-None g c = λ n node indexed at.
    let policy = c.args.self.now in
    let w = world_by policy (g.V.Verdicts.met c.args.verdicts.now) in
    let there = guards_there policy.forms.now n c.args.place _ policy.accepted.checked.spelled node indexed at c.around_at.ensures.guards in
    ap unless (c.in-None.ensures ∙ ap (hidden_among w) there)
