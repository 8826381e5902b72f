use Rattle.std.proofs.Common.{◌≡◌, ℕ, ◌+◌, true, Some, List, length, sym, ap, ◌∙◌, arith}
use Rattle.ifr_opcodes.specs.Opcode.{number}
use Rattle.ifr_opcodes.specs.Forest.{Node}
use Rattle.ifr_opcodes.specs.code.Ops.{bytes_of}
use Rattle.ifr_nodes.specs.NodeExpressions.{expression_tree}
use Rattle.ifr_nodes.specs.Table.{wants_expression, wants_value}
use Rattle.ifr_nodes.specs.code.Views.{node_of}
use Rattle.ifr_nodes.proofs.ConditionLemmas.{StandsValue, value_at}
use Rattle.ifr_nodes.proofs.NodeFactLemmas.{is_node}
use Rattle.ifr_scopes.proofs.default_view.DefaultView.value.Goals as goal
use Rattle.ifr_scopes.proofs.default_view.DefaultView.value.Goals.{After-len}

-- the VALUE behind the default's opcode
behind : (c : After-len) → StandsValue c.args.self.node.ifr.now (node_of c.args.self.node) (c.op-op.result.place + c.len.result)
behind c =
    let view = c.args.self.node in
    let bytes = view.ifr.now in
    let n = node_of view in
    let count : length n.op ≡ length (bytes_of c.op-op.result) = ap (λ (l : List ℕ). length l) (sym c.op-op.ensures.bytes) in
    let wants : wants_value n.op ≡ true = ap wants_value (sym c.op-op.ensures.bytes) ∙ sym c.wants_value.ensures ∙ c.if-not-wants_value.false in
    value_at bytes n (c.op-op.result.place + c.len.result) view.checked (is_node bytes view.op.place _ view.checked view.stands) wants (omega (arith, count, c.op-op.ensures.place, c.len.ensures))

pub overflow_add-op : goal.overflow_add-op
overflow_add-op c = let b = behind (goal.at.overflow_add-op c).After-len in omega (arith, b.inside, c.args.self.node.checked.small)

pub node_at-value-requires-clause-there : goal.node_at-value-requires-clause-there
node_at-value-requires-clause-there c = (behind (goal.at.node_at-value-requires-clause-there c).After-len).there

pub expression-requires : goal.expression-requires
expression-requires c =
    let b = behind (goal.at.expression-requires c).After-len in
    ap (λ (n : Node). wants_expression (number n.op)) c.node_at-value.ensures.node ∙ b.wants

pub returns : goal.returns
returns c =
    let b = behind (goal.at.returns c).After-len in
    ap (λ t. Some t) c.expression.ensures ∙ ap (λ (n : Node). Some (expression_tree n)) c.node_at-value.ensures.node ∙ b.tree
