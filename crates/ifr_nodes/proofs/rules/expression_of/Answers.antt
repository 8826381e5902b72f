use Rattle.std.proofs.Common.{◌≡◌, ℕ, ◌+◌, ◌-◌, List, length, sym, ap, subst, arith}
use Rattle.ifr_expr.specs.code.Expressions.{tree_of}
use Rattle.ifr_expr.proofs.NodeLemmas.{is_expression_node}
use Rattle.ifr_nodes.specs.Nodes.{end_of}
use Rattle.ifr_nodes.specs.Rules.{expression_place}
use Rattle.ifr_nodes.specs.code.Views.{node_of}
use Rattle.ifr_nodes.proofs.RuleExpressionLemmas.{Holds, holds, none_there, is_its_tree}
use Rattle.ifr_nodes.proofs.NodeFactLemmas.{is_node}
use Rattle.ifr_nodes.proofs.rules.expression_of.Goals as goal
use Rattle.ifr_nodes.proofs.rules.expression_of.Goals.{After-len}

-- the expression stands there
its : (c : After-len) → Holds c.args.rule.ifr.now (node_of c.args.rule) (c.args.rule.op.place + c.len.result) (c.end_of-to.result - 2)
its c =
    let view = c.args.rule in
    let bytes = view.ifr.now in
    let n = node_of view in
    let from : expression_place n ≡ view.op.place + c.len.result = omega (arith, view.stands.placed, ap (λ (l : List ℕ). length l) view.stands.opcode, c.len.ensures) in
    let to : end_of n - 2 ≡ c.end_of-to.result - 2 = ap (λ (k : ℕ). k - 2) (sym c.end_of-to.ensures) in
    subst (λ (k : ℕ). Holds bytes n k (c.end_of-to.result - 2)) from (subst (Holds bytes n (expression_place n)) to (holds bytes n view.checked (is_node bytes view.op.place _ view.checked view.stands) c.requires))

pub overflow_add-from : goal.overflow_add-from
overflow_add-from c = let h = its (goal.at.overflow_add-from c).After-len in omega (arith, h.ordered, h.ends, h.within, c.args.rule.checked.small)

pub over-requires-clause-ordered : goal.over-requires-clause-ordered
over-requires-clause-ordered c = (its (goal.at.over-requires-clause-ordered c).After-len).ordered

pub over-requires-clause-within : goal.over-requires-clause-within
over-requires-clause-within c = let h = its (goal.at.over-requires-clause-within c).After-len in omega (arith, h.ends, h.within)

pub over-requires-clause-node : goal.over-requires-clause-node
over-requires-clause-node c =
    let h = its (goal.at.over-requires-clause-node c).After-len in
    is_expression_node _ h.op h.inner h.are_nodes h.bytes_there h.operator

pub over-requires-clause-sound : goal.over-requires-clause-sound
over-requires-clause-sound c =
    let h = its (goal.at.over-requires-clause-sound c).After-len in
    none_there c.args.rule.ifr.now (node_of c.args.rule) _ _ h

pub returns-clause-tree : goal.returns-clause-tree
returns-clause-tree c =
    let h = its (goal.at.returns-clause-tree c).After-len in
    is_its_tree c.args.rule.ifr.now (node_of c.args.rule) _ _ h (tree_of c.over.result) c.over.ensures.read
