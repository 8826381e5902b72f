use Rattle.std.proofs.Common.{List, ℕ, map}
use Rattle.std.specs.Prelude.{decimal}
use Rattle.std.proofs.lemmas.List.{at_drop_all, at_drop_more}
use Rattle.audit_json.proofs.ArrayLemmas.{lists_end, lists_more}
use Rattle.unlock_audit.proofs.objects.put_ids.Goals as goal

pub loop-id-preserved : goal.loop-id-preserved
loop-id-preserved g c =
    lists_more _ c.loop-id.invariant (at_drop_more (λ (l : List ℕ). map (λ id. decimal id) l) c.args.ids.now c.loop-id.id-index 0 c.loop-id-test.true) c.put_before_item.ensures (rw c.from.ensures at c.put_decimal.ensures)

pub returns : goal.returns
returns g c = lists_end c.loop-id.invariant (at_drop_all (λ (l : List ℕ). map (λ id. decimal id) l) c.args.ids.now c.loop-id.id-index c.loop-id-test.false) c.put_array_end.ensures
