use Rattle.ifr_scopes.specs.code.Lists.{statement_node}
use Rattle.form_page.proofs.StatementLemmas.{node_first, nodes_after}
use Rattle.form_page.proofs.listed.Listed.take_first.Goals as goal

pub invariant_of-self : goal.invariant_of-self
invariant_of-self g c = record { together = nodes_after statement_node _ _ _ _ c.next.ensures.steps c.args.self.now.together; asked = c.args.self.now.asked }

pub returns-clause-node : goal.returns-clause-node
returns-clause-node g c = node_first statement_node _ _ _ _ c.next.ensures.steps c.args.self.now.together
