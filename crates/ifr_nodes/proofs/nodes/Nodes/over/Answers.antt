use Rattle.std.proofs.Common.{List, map, sym, ap, ◌∙◌, subst}
use Rattle.ifr_opcodes.specs.Forest.{Node}
use Rattle.ifr_nodes.specs.Checked.{IsChecked}
use Rattle.ifr_nodes.specs.code.Checked.{AreAt, node_in}
use Rattle.ifr_nodes.specs.Nodes.{nodes_of}
use Rattle.ifr_nodes.specs.code.Visits.{left}
use Rattle.ifr_nodes.proofs.ViewLemmas.{all_found, are_at}
use Rattle.ifr_nodes.proofs.nodes.Nodes.over.Goals as goal

pub invariant_of-result : goal.invariant_of-result
invariant_of-result c =
    let bytes = c.args.ifr.now in
    record {
      checked = subst IsChecked (sym c.over.ensures.kept) c.requires;
      stand = subst (λ b. AreAt b (left c.over.result)) (sym c.over.ensures.kept) (subst (AreAt bytes) (sym c.over.ensures.nodes) (are_at bytes (nodes_of bytes) c.requires.spelled (λ n w. w)));
    }

pub returns-clause-all : goal.returns-clause-all
returns-clause-all c =
    let bytes = c.args.ifr.now in
    ap (λ b. map (λ n. node_in b n.place) (left c.over.result)) c.over.ensures.kept ∙ ap (λ (l : List Node). map (λ n. node_in bytes n.place) l) c.over.ensures.nodes ∙ all_found bytes (nodes_of bytes) c.requires.spelled (λ n w. w)
