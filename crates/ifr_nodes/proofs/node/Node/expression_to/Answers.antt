use Rattle.std.proofs.Common.{◌+◌, ℕ, List, slice_range, sym, ap, ◌∙◌, subst, arith}
use Rattle.hii_bytes.specs.Faults.{HasNone}
use Rattle.ifr_opcodes.specs.Forest.{Mark}
use Rattle.ifr_expr.specs.code.Expressions.{tree_of}
use Rattle.ifr_expr.specs.Faults.{IsExpressionFault}
use Rattle.ifr_expr.specs.code.Bytes.{opcodes_of}
use Rattle.ifr_expr.specs.Trees.{Means}
use Rattle.ifr_nodes.specs.code.Views.{node_of}
use Rattle.ifr_nodes.proofs.ConditionLemmas.{Begins, begins_at, is_its_tree}
use Rattle.ifr_nodes.proofs.ExpressionLemmas.{StandsFrom}
use Rattle.ifr_nodes.proofs.node.Node.expression_to.Goals as goal
use Rattle.ifr_nodes.proofs.node.Node.expression_to.Goals.{After-len}

-- the expression behind the node's opcode
behind : (c : After-len) → Begins c.args.self.ifr.now (node_of c.args.self) (c.args.self.op.place + c.len.result)
behind c =
    let node = c.args.self in
    begins_at node.ifr.now node.op.place _ (node.op.place + c.len.result) node.checked node.stands c.requires.wants (ap (λ n. node.op.place + n) c.len.ensures)

-- up to where it ends
ended : (c : After-len) (b : Begins c.args.self.ifr.now (node_of c.args.self) (c.args.self.op.place + c.len.result)) → StandsFrom c.args.self.ifr.now b.node (c.args.self.op.place + c.len.result) c.args.to
ended c b = subst (StandsFrom c.args.self.ifr.now b.node (c.args.self.op.place + c.len.result)) (b.ends ∙ sym c.requires.ends) b.stands

pub overflow_add-from : goal.overflow_add-from
overflow_add-from c = let b = behind (goal.at.overflow_add-from c).After-len in omega (arith, b.inside, c.args.self.checked.small)

pub over-requires-clause-ordered : goal.over-requires-clause-ordered
over-requires-clause-ordered c = let at = (goal.at.over-requires-clause-ordered c).After-len in (ended at (behind at)).ordered

pub over-requires-clause-within : goal.over-requires-clause-within
over-requires-clause-within c = let at = (goal.at.over-requires-clause-within c).After-len in (ended at (behind at)).within

pub over-requires-clause-node : goal.over-requires-clause-node
over-requires-clause-node c = let at = (goal.at.over-requires-clause-node c).After-len in (ended at (behind at)).is_node

pub over-requires-clause-sound : goal.over-requires-clause-sound
over-requires-clause-sound c =
    let at = (goal.at.over-requires-clause-sound c).After-len in
    let b = behind at in
    subst (λ (l : List Mark). HasNone (IsExpressionFault (c.args.self.op.place + c.len.result) l)) (sym (ended at b).opcodes) b.sound

pub returns : goal.returns
returns c =
    let node = c.args.self in
    let b = behind (goal.at.returns c).After-len in
    let from : ℕ = node.op.place + c.len.result in
    is_its_tree node.ifr.now (node_of node) from b (tree_of c.over.result) (subst (λ (to : ℕ). Means (opcodes_of from (slice_range node.ifr.now from to)) (tree_of c.over.result)) (c.requires.ends ∙ sym b.ends) c.over.ensures.read)
