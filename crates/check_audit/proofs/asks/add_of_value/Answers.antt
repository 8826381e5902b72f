use Rattle.std.proofs.Common.{◌≡◌, true, None, Some, List, arith, ap, option_map, refl, sym, ◌∙◌, inl, inr, length}
use Rattle.std.proofs.lemmas.Bool.{cases_Bool, cond-false}
use Rattle.ifr_opcodes.specs.Forest.{Node}
use Rattle.ifr_expr.specs.Trees.{Tree}
use Rattle.ifr_expr.specs.code.Expressions.{tree_of}
use Rattle.ifr_nodes.specs.NodeExpressions.{value_tree}
use Rattle.ifr_nodes.specs.Table.{wants_value}
use Rattle.ifr_nodes.proofs.ConditionLemmas.{value_at}
use Rattle.ifr_nodes.proofs.NodeFactLemmas.{is_node}
use Rattle.ifr_scopes.specs.code.Parts.{default_node}
use Rattle.check_audit.proofs.asks.add_of_value.Goals as goal

some_value : (t : Tree) → Some t ≡ None → ⊥
some_value t e = cc

-- a default that has a value says so by its Type
valued : (n : Node) (t : Tree) → Some t ≡ value_tree n → wants_value n.op ≡ true
valued n t e = elim (cases_Bool (wants_value n.op)) [
  | inl is ↦ is
  | inr other ↦ absurd (some_value t (e ∙ cond-false (wants_value n.op) _ None other))
]

pub overflow_add-place : goal.overflow_add-place
overflow_add-place c =
    let view = c.args.default.node in
    let bytes = view.ifr.now in
    let n = default_node c.args.default in
    let wants = valued n _ (ap (option_map tree_of) (sym c.in-Some.is) ∙ c.value.ensures) in
    let behind = value_at bytes n _ view.checked (is_node bytes view.op.place _ view.checked view.stands) wants refl in
    let count = ap (λ (l : List _). length l) c.op.ensures.bytes in
    omega (arith, behind.inside, view.checked.small, count, c.len.ensures, c.place.ensures)
