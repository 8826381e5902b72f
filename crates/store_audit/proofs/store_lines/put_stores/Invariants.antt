use Rattle.std.specs.List.{flat_map}
use Rattle.hii_bytes.specs.Watching.{pen_of}
use Rattle.hii_bytes.specs.code.Writing.{Stands}
use Rattle.ifr_nodes.specs.Nodes.{nodes_of}
use Rattle.ifr_scopes.specs.code.Lists.{stores_left}
use Rattle.store_audit.specs.StoreLines.{store_told, stores_text}
use Rattle.store_audit.proofs.store_lines.put_stores.Given as goal

-- the lines before those of the stores that are left were written
abbrev pub invariant-loop-store : goal.invariant-loop-store
invariant-loop-store g l = record {
  can : (goal.iterator-loop-store g).can_next l.stores;
  ends : (goal.iterator-loop-store g).is_finite l.stores;
  text : Stands (pen_of g.W.Write.contents l.fn.out) (pen_of g.W.Write.contents l.out) (stores_text l.fn.telling (nodes_of l.forms)) (flat_map (store_told l.fn.telling) (stores_left l.stores));
}
