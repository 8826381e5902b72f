-- What the views of expressions stand for.
use Rattle.std.specs.Prelude.{ℕ, ◌+◌, List, length}
use Rattle.ifr_opcodes.specs.Forest.{Mark}
use Rattle.ifr_expr.specs.code.Checked.{tree}
use Rattle.ifr_expr.specs.code.OpcodesLeft.{opcodes_left}
use Rattle.ifr_expr.specs.Trees.{Tree}
use Rattle.ifr_expr.specs.declared.operators.Operators.{Operators}
use Rattle.ifr_expr.specs.declared.expr.Expr.{Expr}

-- the tree that an expression means
abbrev pub tree_of : Expr → Tree
tree_of expr = tree expr.place expr.bytes.now

-- where it ends, in bytes from the package's header
abbrev pub end_of : Expr → ℕ
end_of expr = expr.place + length expr.bytes.now

-- the opcodes of the operators that are left
abbrev pub operators_left : Operators → List Mark
operators_left it = opcodes_left it.ops
