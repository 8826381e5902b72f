use Rattle.std.proofs.Common.{List, [], ◌∷◌, ◌++◌, sym, ap, subst, ◌∙◌, append_assoc, append-nil}
use Rattle.ifr_opcodes.specs.Forest.{Mark}
use Rattle.ifr_opcodes.specs.code.Ops.{op_of}
use Rattle.ifr_opcodes.specs.code.Views.{operator}
use Rattle.ifr_expr.specs.code.Expressions.{tree_of, operators_left}
use Rattle.condition_text.proofs.GoodLemmas.{AreSmall, HaveSmall, join_small, tree_good}
use Rattle.condition_text.proofs.laws.checked_expressions_have_good_senses.Goals as goal

pub loop-op-init : goal.loop-op-init
loop-op-init c = ([], tt, c.operators-ops.ensures)

pub loop-op-preserved : goal.loop-op-preserved
loop-op-preserved c =
    let before = c.loop-op.invariant in
    let mark : Mark = op_of (operator c.in-Some.op) in (
      before.0 ++ mark ∷ [],
      join_small before.0 mark before.1 (subst (λ (m : Mark). AreSmall m.op) c.op.ensures c.opcodes_are_bytes.ensures),
      append_assoc before.0 (mark ∷ []) (operators_left c.next.new.self) ∙ ap (λ (l : List Mark). before.0 ++ l) (sym c.in-Some.ensures.steps) ∙ before.2,
    )

pub returns : goal.returns
returns c =
    let before = c.loop-op.invariant in
    let all = sym (append-nil before.0) ∙ ap (λ (l : List Mark). before.0 ++ l) (sym c.in_default.ensures.steps.0) ∙ before.2 in
    tree_good (tree_of c.args.expr) c.args.expr.checked.means.fitting (subst HaveSmall all before.1)
