use Rattle.std.proofs.Common.{◌≡◌, ◌++◌, List}
use Rattle.std.specs.Prelude.{filter}
use Rattle.std.specs.List.{AllByRecursion, flat_map}
use Rattle.hii_bytes.specs.Watching.{Writes, pen_of}
use Rattle.ifr_nodes.specs.Nodes.{nodes_of}
use Rattle.ifr_opcodes.specs.Forest.{Node}
use Rattle.ifr_scopes.specs.code.Lists.{stores_left}
use Rattle.store_audit.specs.Fillings.{buffer_stores, has_bytes}
use Rattle.store_audit.specs.HeaderLines.{IsReadBack, header_told, naming}
use Rattle.store_audit.proofs.header_lines.put_headers.Given as goal

-- The lines of the stores so far are written, and each is read back; they and those that hold bytes of the stores that are left are all.
abbrev pub invariant-loop-store : goal.invariant-loop-store
invariant-loop-store g l = record {
  can : (goal.iterator-loop-store g).can_next l.stores;
  ends : (goal.iterator-loop-store g).is_finite l.stores;
  done : List Node;
  all : done ++ filter has_bytes (stores_left l.stores) ≡ buffer_stores (nodes_of l.forms);
  text : Writes (pen_of g.W.Write.contents l.fn.out) (pen_of g.W.Write.contents l.out) (flat_map (header_told l.fn.telling l.path) done);
  read : AllByRecursion (λ n. IsReadBack (naming l.path n)) done;
}
