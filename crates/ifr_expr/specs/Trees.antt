-- Expressions as trees of operators (UEFI 2.8, 33.2.5.7 Expressions).
use Rattle.std.specs.Prelude.{◌≡◌, ℕ, ◌+◌, max, Option, Some, List, [], ◌∷◌, ◌++◌, length}
use Rattle.ifr_opcodes.specs.Opcode.{number}
use Rattle.ifr_opcodes.specs.Rows.{operands}
use Rattle.ifr_opcodes.specs.Forest.{Forest, none, node, flat, Mark}

-- An operator with the trees of its operands, the left one first.
pub data Tree : Type 0 where
  leaf : (op : Mark) → Tree
  one : (op : Mark) (operand : Tree) → Tree
  two : (op : Mark) (left right : Tree) → Tree

-- the opcodes that spell a tree: those of the operands, left first, and then its own
abbrev pub post : Tree → List Mark
post (leaf op) = op ∷ []
post (one op operand) = post operand ++ op ∷ []
post (two op left right) = post left ++ (post right ++ op ∷ [])

-- how many operands an opcode takes, if it is an operator's
abbrev pub takes : Mark → Option ℕ
takes op = operands (number op.op)

-- Each operator has as many operands as it takes.
abbrev pub IsFitting : Tree → Type 0
IsFitting (leaf op) = takes op ≡ Some 0
IsFitting (one op operand) = (takes op ≡ Some 1) × IsFitting operand
IsFitting (two op left right) = (takes op ≡ Some 2) × (IsFitting left × IsFitting right)

-- how many values there are at once while it is evaluated
abbrev pub need : Tree → ℕ
need (leaf op) = 1
need (one op operand) = need operand
need (two op left right) = max (need left) (need right + 1)

-- The opcodes mean the tree.
pub record Means (marks : List Mark) (tree : Tree) : Type 0 where
  pub spelled : post tree ≡ marks
  pub fitting : IsFitting tree

-- the opcodes of sibling nodes, of which the first stands at a place
abbrev pub siblings : ℕ → Forest → List Mark
siblings at none = []
siblings at (node op children rest) =
    record { place = at; op = op } ∷ siblings (at + length (flat (node op children none))) rest

-- the opcodes of an expression that stands at a place: its own, and then its children's
abbrev pub expression : ℕ → List ℕ → Forest → List Mark
expression at op children = record { place = at; op = op } ∷ siblings (at + length op) children
