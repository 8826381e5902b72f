use Rattle.std.proofs.Common.{◌+◌, ap, ◌∙◌, arith}
use Rattle.ifr_nodes.specs.code.Views.{node_of}
use Rattle.ifr_nodes.proofs.ConditionLemmas.{Begins, begins_at}
use Rattle.ifr_nodes.proofs.node.Node.expression_end.Goals as goal
use Rattle.ifr_nodes.proofs.node.Node.expression_end.Goals.{After-len}

-- the expression behind the node's opcode
behind : (c : After-len) → Begins c.args.self.ifr.now (node_of c.args.self) (c.args.self.op.place + c.len.result)
behind c =
    let node = c.args.self in
    begins_at node.ifr.now node.op.place _ (node.op.place + c.len.result) node.checked node.stands c.requires (ap (λ n. node.op.place + n) c.len.ensures)

pub overflow_add-self : goal.overflow_add-self
overflow_add-self c = let b = behind (goal.at.overflow_add-self c).After-len in omega (arith, b.inside, c.args.self.checked.small)

pub end_of-requires-clause-there : goal.end_of-requires-clause-there
end_of-requires-clause-there c = (behind (goal.at.end_of-requires-clause-there c).After-len).there

pub returns : goal.returns
returns c = c.end_of.ensures ∙ (behind (goal.at.returns c).After-len).ends
