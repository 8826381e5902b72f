-- What a typed view of an opcode is read from.
use Rattle.std.specs.Prelude.{◌≡◌, ℕ, Bool, true, false, List, Result, Ok, Err}
use Rattle.hii_bytes.specs.declared.cause.Fault.{Fault}
use Rattle.hii_bytes.specs.Faults.{IsLeast}
use Rattle.ifr_opcodes.specs.Fields.{is_short, pairs, IsMisread}
use Rattle.ifr_opcodes.specs.code.Ops.{bytes_of, op_of}
use Rattle.ifr_opcodes.specs.declared.expressions.ExprOp.{ExprOp}
use Rattle.ifr_opcodes.specs.declared.expressions.ExprOp.TheVariants.{Leaf, RuleRef, Unary, Binary}
use Rattle.ifr_opcodes.specs.declared.expressions.LeafOp.{LeafOp}
use Rattle.ifr_opcodes.specs.declared.expressions.LeafOp.TheVariants as leaf
use Rattle.ifr_opcodes.specs.declared.eq_id_val_list.ListValues.{ListValues}
use Rattle.ifr_opcodes.specs.declared.op.Op.{Op}

-- A wanted opcode with all its fields is read as itself, any other is refused.
abbrev pub Reads : {View : Type 0} → (List ℕ → Bool) → (View → Op) → Op → Result View Fault → Type 0
Reads wanted op_in op (Ok view) =
    (op_of (op_in view) ≡ op_of op) × (wanted (bytes_of op) ≡ true)
    × (is_short (bytes_of op) ≡ false)
Reads wanted op_in op (Err fault) = IsLeast (IsMisread wanted (op_of op)) fault

-- the opcode of an operator
abbrev pub leaf_operator : LeafOp → Op
leaf_operator (leaf.EqIdVal view) = view.op
leaf_operator (leaf.EqIdId view) = view.op
leaf_operator (leaf.EqIdValList view) = view.op
leaf_operator (leaf.QuestionRef view) = view.op
leaf_operator (leaf.Uint view) = view.op
leaf_operator (leaf.Constant view) = view.op
leaf_operator (leaf.This view) = view.op

abbrev pub operator : ExprOp → Op
operator (Leaf view) = leaf_operator view
operator (RuleRef view) = view.op
operator (Unary view) = view.op
operator (Binary view) = view.op

-- the numbers that are left of an EQ_ID_VAL_LIST
abbrev pub values_left : ListValues → List ℕ
values_left it = pairs it.rest.now
