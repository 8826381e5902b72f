use Rattle.std.proofs.Common.{ap, rules}
use Rattle.std.specs.List.{flat_map}
use Rattle.hii_bytes.proofs.WritingLemmas.{Stands-start, past_piece}
use Rattle.ifr_scopes.specs.code.Lists.{stores_left}
use Rattle.store_audit.specs.StoreLines.{store_told}
use Rattle.store_audit.proofs.store_lines.put_stores.Goals as goal

pub loop-store-init : goal.loop-store-init
loop-store-init g c = record {
  can = search rules;
  ends = search rules;
  text = rw c.stores-stores.ensures.stores (Stands-start _ _);
}

pub loop-store-preserved : goal.loop-store-preserved
loop-store-preserved g c = record {
  can = search rules;
  ends = search rules;
  text = past_piece _ _ _ _ _ _ (flat_map (store_told c.args.telling) (stores_left c.next.new.self)) (ap (flat_map (store_told c.args.telling)) c.in-Some.ensures.steps) c.loop-store.invariant.text c.put_told.ensures;
}
