use Rattle.std.proofs.Common.{ap, sym, ◌∙◌}
use Rattle.ifr_scopes.specs.code.Lists.{store_node, stores_left}
use Rattle.hii_varstore.specs.StoreNodes.{is_taken}
use Rattle.package_faults.proofs.StoreLemmas.{met_none, met_next, met_all}
use Rattle.package_faults.proofs.stores.repeated_among.Goals as goal

pub loop-store-init : goal.loop-store-init
loop-store-init c = record {
  can = tt;
  ends = tt;
  met = met_none _ _ _ _ c.in_ok-ids.ensures c.new-faults.ensures.items (ap stores_left c.into_iter-store-iterator.ensures.into_iter_gives);
}

pub loop-store-preserved : goal.loop-store-preserved
loop-store-preserved c =
    let met = c.loop-store.invariant.met in
    let n = store_node c.in-Some.store in
    record {
      can = tt;
      ends = tt;
      met = met_next _ _ _ n _ _ _ _ c.meets_again-is_again.result met c.in-Some.ensures.steps
          (c.meets_again-is_again.ensures.told met.before met.known ∙ ap (λ id. is_taken id met.before) c.id.ensures)
          (c.meets_again-is_again.ensures.met met.before n (sym c.id.ensures) met.known) (rw c.place.ensures at c.in_ok-add_where.ensures);
    }

pub returns : goal.returns
returns c = met_all _ _ _ _ c.loop-store.invariant.met c.in-None.ensures.steps.0
