use Rattle.std.proofs.Common.{refl, ap, ◌∙◌, List, Option}
use Rattle.ifr_opcodes.specs.Forest.{Node}
use Rattle.ifr_nodes.specs.Guards.{guards}
use Rattle.ifr_scopes.specs.code.AroundViews.{around_lock}
use Rattle.guard_policy.specs.Policy.{covered_by}
use Rattle.guard_policy.specs.code.Answers.{unless}
use Rattle.guard_policy.specs.code.Views.{world_by}
use Rattle.guard_policy.proofs.IndexedLemmas.{guards_there, lock_there}
use Rattle.guard_policy.proofs.policy.Policy.uncovered_beside.Goals as goal

pub returns-clause-uncovered : goal.returns-clause-uncovered
returns-clause-uncovered g c = λ n node indexed at.
    let policy = c.args.self.now in
    let w = world_by policy (g.V.Verdicts.met c.args.verdicts.now) in
    let around = c.around_at-around.result in
    let spelled = policy.accepted.checked.spelled in
    let gs = guards_there policy.forms.now n c.args.place _ spelled node indexed at c.around_at-around.ensures.guards in
    let lock = lock_there policy.forms.now n c.args.place _ spelled node indexed at c.around_at-around.ensures.lock in
    c.unless_denied.ensures ∙ rw (c.effects_beside.ensures.hides, c.effects_beside.ensures.grays_out, c.lock.ensures) refl
    ∙ ap (λ (its : List Node). unless (covered_by w its (around_lock around))) gs ∙ ap (λ (o : Option Node). unless (covered_by w (guards n) o)) lock
