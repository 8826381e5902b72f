use Rattle.std.proofs.Common.{ap}
use Rattle.ifr_nodes.specs.Nodes.{nodes_of}
use Rattle.guard_policy.specs.laws.Support.{support_over}
use Rattle.guard_policy.proofs.policy.Policy.support_of.Goals as goal

pub returns : goal.returns
returns c = λ stores. ap (support_over (nodes_of c.args.self.now.forms.now)) (c.of.ensures stores)
