use Rattle.std.proofs.Common.{inl}
use Rattle.ifr_nodes.specs.Nodes.{is_store}
use Rattle.check_audit.proofs.CountLemmas.{few}
use Rattle.check_audit.proofs.verdict.stores_count.Goals as goal

pub count-requires-clause-fits : goal.count-requires-clause-fits
count-requires-clause-fits c = inl (few _ is_store _ c.stores-views.ensures.accepted.checked c.stores-views.ensures.stores)
