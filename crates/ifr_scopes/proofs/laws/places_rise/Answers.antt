use Rattle.ifr_nodes.proofs.PlaceLemmas as lemmas
use Rattle.ifr_scopes.proofs.laws.places_rise.Goals as goal

pub returns : goal.returns
returns c = lemmas.places_rise
