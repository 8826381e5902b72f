use Rattle.std.proofs.Common.{◌≡◌, ℕ, List, filter, sym, ap, subst, ◌∙◌}
use Rattle.ifr_nodes.specs.Nodes.{nodes_of, is_no_submit}
use Rattle.ifr_index.specs.code.Tables.{AreConditionEntries}
use Rattle.ifr_index.proofs.NoSubmitLemmas.{all_again, all_entries, denying}
use Rattle.ifr_scopes.proofs.forms.Forms.nosubmits.Goals as goal

pub invariant_of-result : goal.invariant_of-result
invariant_of-result c =
    let bytes = c.self.inside.ifr.now in
    record {
      checked = c.self.invariant.accepted.checked;
      table = c.deref.ensures.value ∙ c.self.invariant.index.guards;
      conditions = subst (AreConditionEntries bytes) (sym (c.deref-2.ensures.value ∙ c.self.invariant.index.conditions)) (all_entries bytes c.self.invariant.accepted.checked.spelled);
    }

pub returns : goal.returns
returns c =
    let bytes = c.self.inside.ifr.now in
    let again = ap (denying bytes) (c.deref-2.ensures.value ∙ c.self.invariant.index.conditions) ∙ all_again bytes c.self.invariant.accepted.checked.spelled in
    subst (λ (b : List ℕ). denying bytes c.deref-2.result.now ≡ filter is_no_submit (nodes_of b)) c.self.view_is again
