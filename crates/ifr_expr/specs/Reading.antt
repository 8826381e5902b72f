-- Bytes read as the opcodes of an expression, and opcodes made into a tree (own rule).
use Rattle.std.specs.Prelude.{ℕ, zero, suc, Option, Some, List, [], ◌∷◌}
use Rattle.ifr_opcodes.specs.Forest.{Forest, none, node, Mark}
use Rattle.ifr_expr.specs.Trees.{Tree, leaf, one, two, takes, expression}

-- an operator over the trees before it, the last of them first
abbrev pub over : Option ℕ → Mark → List Tree → List Tree
over (Some zero) op trees = leaf op ∷ trees
over (Some (suc zero)) op (operand ∷ trees) = one op operand ∷ trees
over (Some (suc (suc n))) op (right ∷ left ∷ trees) = two op left right ∷ trees
over _ op trees = trees

unfoldable pub trees_of : List Tree → List Mark → List Tree
trees_of trees [] = trees
trees_of trees (op ∷ ops) = trees_of (over (takes op) op trees) ops

-- the first of some trees
abbrev pub first_tree : List Tree → Tree
first_tree [] = leaf (record { place = 0; op = [] })
first_tree (tree ∷ trees) = tree

-- the one tree that opcodes mean, if they mean one
unfoldable pub tree_of_opcodes : List Mark → Tree
tree_of_opcodes marks = first_tree (trees_of [] marks)

-- the tree of the expression with which a forest begins, whose first node stands at a place
abbrev pub tree_in : ℕ → Forest → Tree
tree_in at none = first_tree []
tree_in at (node op inner rest) = tree_of_opcodes (expression at op inner)
