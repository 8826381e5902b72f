use Rattle.ifr_scopes.specs.code.Lists.{stores_left}
use Rattle.package_faults.proofs.StoreLemmas.{HasMet}
use Rattle.package_faults.proofs.stores.repeated_among.Given as goal

abbrev pub invariant-loop-store : goal.invariant-loop-store
invariant-loop-store l = record {
  can : goal.iterator-loop-store.can_next l.store-iterator;
  ends : goal.iterator-loop-store.is_finite l.store-iterator;
  met : HasMet (stores_left l.fn.stores) (stores_left l.store-iterator) l.ids l.faults.items;
}
