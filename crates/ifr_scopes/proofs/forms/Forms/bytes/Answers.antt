use Rattle.std.proofs.Common.{subst}
use Rattle.ifr_nodes.specs.Accepted.{IsAccepted}
use Rattle.ifr_scopes.proofs.forms.Forms.bytes.Goals as goal

pub returns-clause-accepted : goal.returns-clause-accepted
returns-clause-accepted c = subst IsAccepted c.self.view_is c.self.invariant.accepted
