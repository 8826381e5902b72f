use Rattle.ifr_opcodes.proofs.ForestLemmas.{is_tree_of}
use Rattle.ifr_scopes.proofs.laws.the_tree_is_the_spelled_forest.Goals as goal

pub returns : goal.returns
returns c = is_tree_of
