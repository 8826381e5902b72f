use Rattle.std.proofs.Common.{ap, ◌∙◌, List, Option}
use Rattle.ifr_opcodes.specs.Forest.{Node}
use Rattle.ifr_nodes.specs.Guards.{guards}
use Rattle.ifr_scopes.specs.code.AroundViews.{around_lock}
use Rattle.guard_policy.specs.Policy.{covered_by}
use Rattle.guard_policy.specs.code.Answers.{unless}
use Rattle.guard_policy.specs.code.Views.{world_by}
use Rattle.guard_policy.proofs.IndexedLemmas.{guards_there, lock_there}
use Rattle.guard_policy.proofs.policy.Policy.uncovered_at.Goals as goal

pub returns : goal.returns
returns g c = λ n node indexed at.
    let policy = c.args.self.now in
    let w = world_by policy (g.V.Verdicts.met c.args.verdicts.now) in
    let spelled = policy.accepted.checked.spelled in
    let gs = guards_there policy.forms.now n c.args.place _ spelled node indexed at c.around_at.ensures.guards in
    let lock = lock_there policy.forms.now n c.args.place _ spelled node indexed at c.around_at.ensures.lock in
    c.unless_covered.ensures ∙ ap (λ (its : List Node). unless (covered_by w its (around_lock c.around_at.result))) gs ∙ ap (λ (o : Option Node). unless (covered_by w (guards n) o)) lock
