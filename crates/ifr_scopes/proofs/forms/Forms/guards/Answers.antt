use Rattle.std.proofs.Common.{◌≡◌, ℕ, List, map, sym, ap, subst, ◌∙◌}
use Rattle.ifr_nodes.specs.Accepted.{IsAccepted}
use Rattle.ifr_nodes.specs.Guards.{guards_among}
use Rattle.ifr_nodes.specs.Nodes.{nodes_of}
use Rattle.ifr_nodes.specs.code.Checked.{node_in}
use Rattle.ifr_index.specs.code.Tables.{AreGuardEntries}
use Rattle.ifr_index.specs.declared.index.GuardEntry.{GuardEntry}
use Rattle.ifr_index.proofs.EntryLemmas.{all_guards_kept, all_guards_again}
use Rattle.ifr_scopes.proofs.forms.Forms.guards.Goals as goal

pub invariant_of-result : goal.invariant_of-result
invariant_of-result c =
    let bytes = c.self.inside.ifr.now in
    record {
      checked = c.self.invariant.accepted.checked;
      entries = subst (AreGuardEntries bytes) (sym (c.deref.ensures.value ∙ c.self.invariant.index.guards)) (all_guards_kept bytes c.self.invariant.accepted.checked.spelled);
    }

pub returns-clause-accepted : goal.returns-clause-accepted
returns-clause-accepted c = subst IsAccepted c.self.view_is c.self.invariant.accepted

pub returns-clause-guards : goal.returns-clause-guards
returns-clause-guards c =
    let its = c.deref.result.now in
    let bytes = c.self.inside.ifr.now in
    let again = ap (map (λ (guard : GuardEntry). node_in bytes guard.place)) (c.deref.ensures.value ∙ c.self.invariant.index.guards) ∙ all_guards_again bytes c.self.invariant.accepted.checked.spelled in
    subst (λ (b : List ℕ). map (λ (guard : GuardEntry). node_in bytes guard.place) its ≡ guards_among (nodes_of b)) c.self.view_is again
