use Rattle.ifr_nodes.specs.Nodes.{nodes_of}
use Rattle.ifr_scopes.specs.code.Lists.{guard_node}
use Rattle.guard_policy.specs.code.Views.{bytes_of}
use Rattle.unlock_audit.specs.Asking.{ids_in}
use Rattle.unlock_audit.proofs.IdLemmas.{drop_item, ids_next}
use Rattle.unlock_audit.proofs.asking.add_asked.Goals as goal

pub loop-guard-preserved : goal.loop-guard-preserved
loop-guard-preserved c =
    let g = c.guard-item.result in
    ids_next (ids_in (nodes_of (bytes_of c.args.policy))) _ _ c.in_ok-found.found.keys c.args.ids.now.items _ _ _ (guard_node g) (drop_item guard_node c.args.conditions.now c.loop-guard.guard-index g c.loop-guard-test.true c.guard-item.is)
    c.add_ids.ensures c.in_ok-found.ensures c.loop-guard.invariant
