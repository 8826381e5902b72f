-- An expression that was checked.
use Rattle.std.specs.Prelude.{◌≡◌, ℕ, ◌+◌, ◌≤◌, ◌<◌, ◌^◌, true, false, List, length}
use Rattle.std.specs.List.{AllByRecursion, AllByRecursion-prop}
use Rattle.std.specs.Coded.{×_prop}
use Rattle.std.proofs.Props.{props}
use Rattle.ifr_opcodes.specs.Opcode.{number, IsWhole}
use Rattle.ifr_opcodes.specs.code.Props.{IsWhole-prop}
use Rattle.ifr_opcodes.specs.Rows.{is_operator}
use Rattle.ifr_opcodes.specs.Fields.{is_short}
use Rattle.ifr_opcodes.specs.Forest.{Mark}
use Rattle.ifr_opcodes.specs.Reading.{opcodes_in}
use Rattle.ifr_expr.specs.Trees.{Tree, leaf, one, two, need, IsFitting, Means}
use Rattle.ifr_expr.specs.code.Bytes.{to_end, AreOpcodes}
use Rattle.ifr_expr.specs.Reading.{tree_of_opcodes}

whole_prop : (ops : List (List ℕ)) → IsProp (AllByRecursion IsWhole ops)
whole_prop ops = AllByRecursion-prop IsWhole IsWhole-prop ops

pub AreOpcodes-prop : (bytes : List ℕ) → IsProp (AreOpcodes bytes)
AreOpcodes-prop bytes = hlevel (props, whole_prop)

-- an operator's opcode that has all its fields
pub record IsSized (op : Mark) : Type 0 where
  pub operator : is_operator (number op.op) ≡ true
  pub sized : is_short op.op ≡ false

IsSized-prop : (op : Mark) → IsProp (IsSized op)
IsSized-prop op = hlevel props

abbrev pub AreSized : List Mark → Type 0
AreSized marks = AllByRecursion IsSized marks

pub AreSized-prop : (marks : List Mark) → IsProp (AreSized marks)
AreSized-prop marks = AllByRecursion-prop IsSized IsSized-prop marks

IsFitting-prop : (tree : Tree) → IsProp (IsFitting tree)
IsFitting-prop (leaf op) = hlevel props
IsFitting-prop (one op operand) = ×_prop (hlevel props) (IsFitting-prop operand)
IsFitting-prop (two op left right) =
    ×_prop (hlevel props) (×_prop (IsFitting-prop left) (IsFitting-prop right))

-- the opcodes of an expression at a place that has these bytes, and the tree that they mean
abbrev pub marks : ℕ → List ℕ → List Mark
marks at bytes = to_end at (opcodes_in bytes)

abbrev pub tree : ℕ → List ℕ → Tree
tree at bytes = tree_of_opcodes (marks at bytes)

-- The bytes at a place mean a tree of operators that have all their fields, of no more than 64 values at once.
pub record IsChecked (at : ℕ) (bytes : List ℕ) : Type 0 where
  pub small : at + length bytes < 2 ^ 32
  pub opcodes : AreOpcodes bytes
  pub means : Means (marks at bytes) (tree at bytes)
  pub within : need (tree at bytes) ≤ 64
  pub sized : AreSized (marks at bytes)

pub IsChecked-prop : (at : ℕ) (bytes : List ℕ) → IsProp (IsChecked at bytes)
IsChecked-prop at bytes = hlevel (props, AreOpcodes-prop, IsFitting-prop, AreSized-prop)
