-- The numbers of the operators that have no fields (UEFI 2.8, 33.3.8.3 Opcode Reference, under the name of each).
use Rattle.std.specs.Prelude.{ℕ}
use Rattle.ifr_opcodes.specs.declared.codes.TheConstants as code
use Rattle.ifr_opcodes.specs.declared.operators.Constant.{Constant}
use Rattle.ifr_opcodes.specs.declared.operators.Constant.TheVariants as constant
use Rattle.ifr_opcodes.specs.declared.operators.Unary.{Unary}
use Rattle.ifr_opcodes.specs.declared.operators.Unary.TheVariants as unary
use Rattle.ifr_opcodes.specs.declared.operators.Binary.{Binary}
use Rattle.ifr_opcodes.specs.declared.operators.Binary.TheVariants as binary

abbrev pub constant_code : Constant → ℕ
constant_code constant.True = code.TRUE
constant_code constant.False = code.FALSE
constant_code constant.Zero = code.ZERO
constant_code constant.One = code.ONE
constant_code constant.Ones = code.ONES
constant_code constant.Undefined = code.UNDEFINED

abbrev pub unary_code : Unary → ℕ
unary_code unary.Not = code.NOT
unary_code unary.BitwiseNot = code.BITWISE_NOT

abbrev pub binary_code : Binary → ℕ
binary_code binary.And = code.AND
binary_code binary.Or = code.OR
binary_code binary.Equal = code.EQUAL
binary_code binary.NotEqual = code.NOT_EQUAL
binary_code binary.GreaterThan = code.GREATER_THAN
binary_code binary.GreaterEqual = code.GREATER_EQUAL
binary_code binary.LessThan = code.LESS_THAN
binary_code binary.LessEqual = code.LESS_EQUAL
binary_code binary.BitwiseAnd = code.BITWISE_AND
binary_code binary.BitwiseOr = code.BITWISE_OR
binary_code binary.ShiftLeft = code.SHIFT_LEFT
binary_code binary.ShiftRight = code.SHIFT_RIGHT
binary_code binary.Add = code.ADD
binary_code binary.Subtract = code.SUBTRACT
binary_code binary.Multiply = code.MULTIPLY
binary_code binary.Divide = code.DIVIDE
binary_code binary.Modulo = code.MODULO
