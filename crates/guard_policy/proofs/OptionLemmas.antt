-- The first of some nodes of a package is one, and so are the rest.
use Rattle.std.proofs.Common.{◌≡◌, ℕ, suc, List, ◌∷◌, subst, arith}
use Rattle.ifr_opcodes.specs.Forest.{Node}
use Rattle.ifr_nodes.specs.code.Checked.{IsNodeOf, AreNodesOf}

pub first_of : (bytes : List ℕ) (left : List Node) (n : Node) (rest : List Node) → left ≡ n ∷ rest → AreNodesOf bytes left → IsNodeOf bytes n
first_of bytes left n rest e all = subst (AreNodesOf bytes) e all 0 n (omega arith)

pub rest_of : (bytes : List ℕ) (left : List Node) (n : Node) (rest : List Node) → left ≡ n ∷ rest → AreNodesOf bytes left → AreNodesOf bytes rest
rest_of bytes left n rest e all = λ i d lt. subst (AreNodesOf bytes) e all (suc i) d (omega arith)
