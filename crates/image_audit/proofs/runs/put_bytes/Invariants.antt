use Rattle.std.specs.List.{flat_map}
use Rattle.hii_bytes.specs.Watching.{pen_of}
use Rattle.hii_bytes.specs.code.Writing.{Stands}
use Rattle.ifr_nodes.specs.Nodes.{nodes_of}
use Rattle.ifr_scopes.specs.Stores.{store_id}
use Rattle.ifr_scopes.specs.code.Lists.{stores_left}
use Rattle.hii_varstore.specs.Stores.{bytes_of}
use Rattle.image_audit.specs.Difference.{bytes_told, held_runs}
use Rattle.image_audit.proofs.runs.put_bytes.Given as goal

-- the lines of the stores before those that are left are written
abbrev pub invariant-loop-store : goal.invariant-loop-store
invariant-loop-store g l =
    let ns = nodes_of l.forms in
    record {
      can : (goal.iterator-loop-store g).can_next l.stores;
      ends : (goal.iterator-loop-store g).is_finite l.stores;
      text : Stands (pen_of g.W.Write.contents l.fn.out) (pen_of g.W.Write.contents l.out) (bytes_told l.telling ns l.one l.other)
          (flat_map (λ n. held_runs l.telling ns (store_id n.op) (bytes_of l.one (store_id n.op)) (bytes_of l.other (store_id n.op))) (stores_left l.stores));
    }
