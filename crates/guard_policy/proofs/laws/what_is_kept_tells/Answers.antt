use Rattle.guard_policy.proofs.ToldLemmas.{around_told, decision_told}
use Rattle.guard_policy.proofs.laws.what_is_kept_tells.Goals as goal

pub returns-clause-node : goal.returns-clause-node
returns-clause-node c = λ bytes removed stores holding n accepted is all. around_told bytes removed stores holding accepted all n is

pub returns-clause-decision : goal.returns-clause-decision
returns-clause-decision c = λ bytes removed stores holding decision accepted is by all. decision_told bytes removed stores holding accepted all decision is by
