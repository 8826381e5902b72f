use Rattle.ifr_expr.proofs.TreeLemmas.{one_tree as one_tree_alone}
use Rattle.ifr_expr.proofs.laws.one_tree.Goals as goal

pub returns : goal.returns
returns c = one_tree_alone
