use Rattle.guard_policy.proofs.ToldLemmas.{evaluated_told}
use Rattle.guard_policy.proofs.policy.Policy.over.Goals as goal

pub returns-clause-tells : goal.returns-clause-tells
returns-clause-tells c = evaluated_told c.args.self.now.forms.now c.args.self.now.removed.now c.args.stores.now c.args.self.now.accepted
