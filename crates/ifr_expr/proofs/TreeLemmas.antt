-- Opcodes mean one tree at most.
use Rattle.std.proofs.Common.{◌≡◌, ℕ, ◌≤◌, Option, List, [], ◌∷◌, ◌++◌, refl, sym, ap, ◌∙◌, append_assoc, arith}
use Rattle.std.proofs.lemmas.List.{append-nil}
use Rattle.ifr_opcodes.specs.Forest.{Mark}
use Rattle.ifr_expr.specs.Trees.{Tree, leaf, one, two, post, takes, need, IsFitting, Means}
use Rattle.ifr_expr.specs.Reading.{over, trees_of, first_tree, tree_of_opcodes}

step : (op : Mark) (trees : List Tree) (more : List Mark) → trees_of trees (op ∷ more) ≡ trees_of (over (takes op) op trees) more
unfolding trees_of
step op trees more = refl

pub trees-post : (tree : Tree) (trees : List Tree) (more : List Mark) → IsFitting tree → trees_of trees (post tree ++ more) ≡ trees_of (tree ∷ trees) more
trees-post (leaf op) trees more h = step op trees more ∙ ap (λ (o : Option ℕ). trees_of (over o op trees) more) h
trees-post (one op operand) trees more h =
    ap (trees_of trees) (append_assoc (post operand) (op ∷ []) more)
    ∙ trees-post operand trees (op ∷ more) h.1
    ∙ step op (operand ∷ trees) more
    ∙ ap (λ (o : Option ℕ). trees_of (over o op (operand ∷ trees)) more) h.0
trees-post (two op left right) trees more h =
    ap (trees_of trees) (append_assoc (post left) (post right ++ op ∷ []) more ∙ ap (λ (l : List Mark). post left ++ l) (append_assoc (post right) (op ∷ []) more))
    ∙ trees-post left trees (post right ++ op ∷ more) h.1.0
    ∙ trees-post right (left ∷ trees) (op ∷ more) h.1.1
    ∙ step op (right ∷ left ∷ trees) more
    ∙ ap (λ (o : Option ℕ). trees_of (over o op (right ∷ left ∷ trees)) more) h.0

-- the tree that opcodes mean is the one that is read
pub is_tree_of : (marks : List Mark) (tree : Tree) → Means marks tree → tree_of_opcodes marks ≡ tree
unfolding tree_of_opcodes trees_of
is_tree_of marks tree m =
    ap (λ (l : List Mark). first_tree (trees_of [] l)) (sym m.spelled ∙ sym (append-nil (post tree)))
    ∙ ap first_tree (trees-post tree [] [] m.fitting)

pub one_tree : (marks : List Mark) (t u : Tree) → Means marks t → Means marks u → t ≡ u
one_tree marks t u m n = sym (is_tree_of marks t m) ∙ is_tree_of marks u n

pub some_need : (tree : Tree) → 1 ≤ need tree
some_need (leaf op) = omega arith
some_need (one op operand) = some_need operand
some_need (two op left right) = omega (arith, some_need left)
