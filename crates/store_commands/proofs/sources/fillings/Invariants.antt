use Rattle.std.proofs.Common.{◌≡◌, ◌++◌, map}
use Rattle.std.specs.Prelude.{filter}
use Rattle.std.specs.List.{AllByRecursion}
use Rattle.ifr_nodes.specs.Nodes.{nodes_of}
use Rattle.ifr_scopes.specs.code.Lists.{stores_left}
use Rattle.store_audit.specs.Fillings.{has_bytes, buffer_stores}
use Rattle.store_audit.specs.code.Fillings.{filling_node}
use Rattle.exported_config.specs.code.Views.{exported_view}
use Rattle.store_commands.specs.Sources.{IsSource}
use Rattle.store_commands.proofs.sources.fillings.Given as goal

-- the stores so far, and those that hold bytes of the stores that are left, are all, and each has its source
abbrev pub invariant-loop-store : goal.invariant-loop-store
invariant-loop-store g l = record {
  can : (goal.iterator-loop-store g).can_next l.stores;
  ends : (goal.iterator-loop-store g).is_finite l.stores;
  sources : AllByRecursion (λ f. IsSource (g.F.StoreFiles.known l.files) l.sources (exported_view l.config) (filling_node f) f.source) l.fillings.items;
  found : map filling_node l.fillings.items ++ filter has_bytes (stores_left l.stores) ≡ buffer_stores (nodes_of l.declared);
}
