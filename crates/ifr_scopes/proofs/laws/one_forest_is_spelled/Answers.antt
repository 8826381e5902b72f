use Rattle.std.proofs.Common.{sym, ◌∙◌}
use Rattle.ifr_opcodes.proofs.ForestLemmas.{is_tree_of}
use Rattle.ifr_scopes.proofs.laws.one_forest_is_spelled.Goals as goal

pub returns : goal.returns
returns c = λ bytes f g s t. sym (is_tree_of bytes f s) ∙ is_tree_of bytes g t
