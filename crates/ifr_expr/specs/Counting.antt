-- How many values the opcodes of an expression leave (the bound of 64 is an own rule).
use Rattle.std.specs.Prelude.{◌≡◌, ℕ, ◌+◌, ◌≤◌, max, Option, Some, None, List, [], ◌∷◌, ◌++◌, ⊤}
use Rattle.ifr_opcodes.specs.Forest.{Mark}
use Rattle.ifr_expr.specs.Trees.{Tree, post, takes, need, IsFitting}

abbrev pub or_zero : Option ℕ → ℕ
or_zero None = 0
or_zero (Some n) = n

-- how many operands an opcode takes
abbrev pub wanted : Mark → ℕ
wanted op = or_zero (takes op)

-- the opcodes of trees, one tree behind the other
abbrev pub posts : List Tree → List Mark
posts [] = []
posts (tree ∷ trees) = post tree ++ posts trees

abbrev pub AreFitting : List Tree → Type 0
AreFitting [] = ⊤
AreFitting (tree ∷ trees) = IsFitting tree × AreFitting trees

-- how many values there are at once while they are evaluated, where the value of each stays
abbrev pub needs : List Tree → ℕ
needs [] = 0
needs (tree ∷ trees) = max (need tree) (needs trees + 1)

-- Opcodes mean trees, one behind the other, and there are never more than 64 values at once.
pub record Spell (marks : List Mark) (trees : List Tree) : Type 0 where
  pub spelled : posts trees ≡ marks
  pub fitting : AreFitting trees
  pub within : needs trees ≤ 64
