use Rattle.std.proofs.Common.{◌≡◌, ℕ, List, map, filter, sym, ap, subst, ◌∙◌}
use Rattle.ifr_nodes.specs.Accepted.{IsAccepted}
use Rattle.ifr_nodes.specs.Nodes.{nodes_of, is_store}
use Rattle.ifr_nodes.specs.code.Checked.{node_in}
use Rattle.ifr_index.specs.code.Tables.{AreOfKind}
use Rattle.ifr_index.proofs.KindLemmas.{all_of_kind, kind_again}
use Rattle.ifr_scopes.proofs.forms.Forms.stores.Goals as goal

pub invariant_of-result : goal.invariant_of-result
invariant_of-result c =
    let bytes = c.self.inside.ifr.now in
    record {
      checked = c.self.invariant.accepted.checked;
      stand = subst (AreOfKind is_store bytes) (sym (c.deref.ensures.value ∙ c.self.invariant.index.stores)) (all_of_kind is_store bytes c.self.invariant.accepted.checked.spelled);
    }

pub returns-clause-stores : goal.returns-clause-stores
returns-clause-stores c =
    let its = c.deref.result.now in
    let bytes = c.self.inside.ifr.now in
    let again = ap (map (node_in bytes)) (c.deref.ensures.value ∙ c.self.invariant.index.stores) ∙ kind_again is_store bytes c.self.invariant.accepted.checked.spelled in
    subst (λ (b : List ℕ). map (node_in bytes) its ≡ filter is_store (nodes_of b)) c.self.view_is again

pub returns-clause-accepted : goal.returns-clause-accepted
returns-clause-accepted c = subst IsAccepted c.self.view_is c.self.invariant.accepted
