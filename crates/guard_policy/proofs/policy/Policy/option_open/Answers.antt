use Rattle.guard_policy.proofs.policy.Policy.option_open.Goals as goal

pub returns : goal.returns
returns c = rw (c.over.ensures.policy, c.over.ensures.stores) at c.option_open_with.ensures
