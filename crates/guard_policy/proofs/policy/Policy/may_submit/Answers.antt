use Rattle.guard_policy.proofs.policy.Policy.may_submit.Goals as goal

pub returns : goal.returns
returns c = rw (c.over.ensures.policy, c.over.ensures.stores) at c.may_submit_with.ensures
