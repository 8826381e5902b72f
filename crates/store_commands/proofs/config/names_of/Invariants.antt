use Rattle.std.proofs.Common.{◌≡◌, ◌++◌, map}
use Rattle.ifr_nodes.specs.Nodes.{nodes_of}
use Rattle.ifr_scopes.specs.code.Lists.{stores_left}
use Rattle.exported_config.specs.code.Views.{named_view}
use Rattle.store_commands.specs.Configured.{named_of, names_of}
use Rattle.store_commands.proofs.config.names_of.Given as goal

-- the stores so far, and behind them those that are left, are all
abbrev pub invariant-loop-store : goal.invariant-loop-store
invariant-loop-store l = record {
  can : (goal.iterator-loop-store).can_next l.stores;
  ends : (goal.iterator-loop-store).is_finite l.stores;
  found : map named_view l.names.items ++ map named_of (stores_left l.stores) ≡ names_of (nodes_of l.declared);
}
