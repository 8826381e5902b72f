-- A good expression (UEFI 2.8, 33.2.5.7 Expressions; the bound of 64 values is an own rule).
use Rattle.std.specs.Prelude.{◌≡◌, ℕ, ◌≤◌, false, List, ⊤}
use Rattle.ifr_opcodes.specs.Forest.{Forest, none, node}
use Rattle.ifr_opcodes.specs.Opcode.{has_scope}
use Rattle.ifr_opcodes.specs.Rows.{is_short}
use Rattle.ifr_expr.specs.Trees.{Tree, Means, need, expression}

-- the further operators of an expression: each has all its fields, and none opens a scope
abbrev pub AreFurther : Forest → Type 0
AreFurther none = ⊤
AreFurther (node op children rest) =
    (is_short op ≡ false) × ((has_scope op ≡ false) × AreFurther rest)

-- An operator at a place has all its fields, with the further ones in its scope it means one tree, and at most 64 values are
-- there at once.
pub record IsGoodExpression (place : ℕ) (op : List ℕ) (children : Forest) : Type 0 where
  pub long : is_short op ≡ false
  pub further : AreFurther children
  pub tree : Tree
  pub means : Means (expression place op children) tree
  pub within : need tree ≤ 64
