use Rattle.std.proofs.Common.{sym, subst}
use Rattle.ifr_nodes.specs.Checked.{IsChecked}
use Rattle.ifr_nodes.specs.code.Checked.{AreNodesOf}
use Rattle.ifr_nodes.specs.code.Visits.{left}
use Rattle.ifr_nodes.proofs.ScopeLemmas.{all_nodes}
use Rattle.ifr_nodes.proofs.scoped_nodes.ScopedNodes.over.Goals as goal

pub invariant_of-result : goal.invariant_of-result
invariant_of-result c =
    let bytes = c.args.ifr.now in
    record {
      checked = subst IsChecked (sym c.over.ensures.kept) c.requires;
      nodes = subst (λ b. AreNodesOf b (left c.over.result)) (sym c.over.ensures.kept) (subst (AreNodesOf bytes) (sym c.over.ensures.nodes) (all_nodes bytes c.requires.spelled));
    }
