use Rattle.ifr_nodes.proofs.PlaceLemmas.{node_stands}
use Rattle.ifr_scopes.proofs.laws.a_node_stands_at_its_place.Goals as goal

pub returns : goal.returns
returns c = node_stands
