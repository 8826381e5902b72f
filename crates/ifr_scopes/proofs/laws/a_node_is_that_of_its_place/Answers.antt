use Rattle.ifr_opcodes.specs.Reading.{tree_of}
use Rattle.ifr_nodes.proofs.PlaceLemmas.{is_found}
use Rattle.ifr_scopes.proofs.laws.a_node_is_that_of_its_place.Goals as goal

pub returns : goal.returns
returns c = λ bytes n accepted within. is_found bytes (tree_of bytes) n accepted.checked.spelled within
