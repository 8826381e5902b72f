-- What is wrong with an expression (own rule).
use Rattle.std.specs.Prelude.{◌≡◌, ◌⊎◌, ℕ, ◌<◌, ◌≤◌, Bool, false, ◌==◌, ◌&&◌, not, List, ◌∷◌, ◌++◌, length}
use Rattle.hii_bytes.specs.Faults.{IsFaultOf, Then}
use Rattle.hii_bytes.specs.declared.cause.Cause.{Cause}
use Rattle.hii_bytes.specs.declared.cause.Cause.TheVariants.{OpOutside, OpSize, Misplaced, ScopeBit, ExprShape, ExprDepth}
use Rattle.ifr_opcodes.specs.Opcode.{number, has_scope}
use Rattle.ifr_opcodes.specs.Rows.{is_operator}
use Rattle.ifr_opcodes.specs.Fields.{is_outside, is_short}
use Rattle.ifr_opcodes.specs.Forest.{Mark}
use Rattle.ifr_expr.specs.Counting.{Spell, wanted}
use Rattle.ifr_expr.specs.Trees.{Tree}

-- An opcode of an expression that stands at a place is not known or left out, lacks bytes of its fields, is no operator's,
-- or opens a scope inside of the expression's own.
abbrev pub has_opcode_fault : ℕ → Mark → Cause → Bool
has_opcode_fault at op OpOutside = is_outside op.op
has_opcode_fault at op OpSize = is_short op.op
has_opcode_fault at op Misplaced = not (is_operator (number op.op))
has_opcode_fault at op ScopeBit = has_scope op.op && not (op.place == at)
has_opcode_fault at op _ = false

-- the faults of its opcodes, each by itself
abbrev pub IsOpcodeFault : ℕ → List Mark → Cause → ℕ → Type 0
IsOpcodeFault at marks = IsFaultOf (λ (op : Mark). op.place) (has_opcode_fault at) marks

-- Behind opcodes that mean these trees stands an opcode.
pub record StandsBehind (marks : List Mark) (trees : List Tree) (op : Mark) : Type 0 where
  pub before : List Mark
  pub behind : List Mark
  pub split : marks ≡ before ++ op ∷ behind
  pub spell : Spell before trees

-- An operator takes more operands than there are values before it, or several values are left.
abbrev pub IsShapeFault : ℕ → List Mark → Cause → ℕ → Type 0
IsShapeFault at marks ExprShape place =
    ((trees : List Tree) × (op : Mark) × StandsBehind marks trees op × (length trees < wanted op)
    × (place ≡ op.place))
    ⊎ ((trees : List Tree) × Spell marks trees × (1 < length trees) × (place ≡ at))
-- An operator without operands stands where there are 64 values.
IsShapeFault at marks ExprDepth place =
    (trees : List Tree) × (op : Mark) × StandsBehind marks trees op × (64 ≤ length trees)
    × (wanted op ≡ 0) × (place ≡ op.place)
IsShapeFault at marks _ place = ⊥

-- The shape has faults only where no opcode has one.
abbrev pub IsExpressionFault : ℕ → List Mark → Cause → ℕ → Type 0
IsExpressionFault at marks = Then (IsOpcodeFault at marks) (IsShapeFault at marks)
