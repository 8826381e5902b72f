use Rattle.rules_laws.proofs.FramingLemmas.{spelled_where_framed}
use Rattle.rules_laws.proofs.framing.a_package_without_fault_of_framing_spells_a_forest.Goals as goal

pub returns : goal.returns
returns c = spelled_where_framed
