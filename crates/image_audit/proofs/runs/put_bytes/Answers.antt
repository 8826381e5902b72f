use Rattle.std.proofs.Common.{rules}
use Rattle.ifr_opcodes.specs.Forest.{Node}
use Rattle.ifr_nodes.specs.Nodes.{nodes_of}
use Rattle.ifr_scopes.specs.Stores.{store_id}
use Rattle.ifr_scopes.specs.code.Lists.{store_node}
use Rattle.hii_varstore.specs.Stores.{bytes_of}
use Rattle.image_audit.specs.Difference.{held_runs}
use Rattle.image_audit.proofs.TellingLemmas.{all_left, past_item}
use Rattle.image_audit.proofs.runs.put_bytes.Goals as goal

pub loop-store-init : goal.loop-store-init
loop-store-init g c = record {
  can = search rules;
  ends = search rules;
  text = all_left (λ (n : Node). held_runs c.args.telling (nodes_of c.args.forms.now) (store_id n.op) (bytes_of c.args.one.now (store_id n.op)) (bytes_of c.args.other.now (store_id n.op))) _ _ _ c.stores-stores.ensures.stores;
}

pub loop-store-preserved : goal.loop-store-preserved
loop-store-preserved g c =
    let line = λ (n : Node). held_runs c.args.telling (nodes_of c.args.forms.now) (store_id n.op) (bytes_of c.args.one.now (store_id n.op)) (bytes_of c.args.other.now (store_id n.op)) in
    record {
      can = search rules;
      ends = search rules;
      text = past_item line _ _ _ _ _ _ (store_node c.in-Some.store) c.in-Some.ensures.steps c.loop-store.invariant.text (rw (c.id.ensures, c.requires) at c.put_held_runs.ensures);
    }
