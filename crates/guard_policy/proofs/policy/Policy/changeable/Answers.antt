use Rattle.guard_policy.proofs.policy.Policy.changeable.Goals as goal

pub returns : goal.returns
returns c = rw (c.over.ensures.policy, c.over.ensures.stores) at c.changeable_with.ensures
