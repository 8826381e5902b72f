use Rattle.std.proofs.Common.{[], ◌∷◌, refl, lit≤}
use Rattle.ifr_opcodes.specs.Rows.{row_of, operands}
use Rattle.ifr_opcodes.specs.Reading.{cut}
use Rattle.ifr_expr.specs.code.Bytes.{IsExpressionNode}
use Rattle.session_tests.proofs.conditions.a_condition_is_said_in_words.Goals as goal

-- the bytes are those of one operator's opcode without Scope
whole : IsExpressionNode (18 ∷ 6 ∷ 7 ∷ 0 ∷ 1 ∷ 0 ∷ [])
unfolding cut operands row_of
whole = record {
  are_nodes = (record { whole = record { long = lit≤ tt; sized = refl; ends = λ e. absurd (cc) }; no_end = λ e. cc; leaf = λ none. refl }, (tt, tt));
  spelled = refl;
  operator = refl;
}

pub check-requires-clause-node : goal.check-requires-clause-node
check-requires-clause-node g c = whole
