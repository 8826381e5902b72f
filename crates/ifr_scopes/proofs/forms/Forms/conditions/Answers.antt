use Rattle.std.proofs.Common.{◌≡◌, ℕ, List, map, filter, sym, ap, subst, ◌∙◌}
use Rattle.ifr_nodes.specs.Accepted.{IsAccepted}
use Rattle.ifr_nodes.specs.Nodes.{nodes_of}
use Rattle.ifr_nodes.specs.code.Checked.{node_in}
use Rattle.ifr_index.specs.code.Tables.{AreConditionEntries, is_question_condition}
use Rattle.ifr_index.specs.declared.index.ConditionEntry.{ConditionEntry}
use Rattle.ifr_index.proofs.NoSubmitLemmas.{all_conditions_again, all_entries}
use Rattle.ifr_scopes.proofs.forms.Forms.conditions.Goals as goal

pub invariant_of-result : goal.invariant_of-result
invariant_of-result c =
    let bytes = c.self.inside.ifr.now in
    record {
      checked = c.self.invariant.accepted.checked;
      conditions = subst (AreConditionEntries bytes) (sym (c.deref.ensures.value ∙ c.self.invariant.index.conditions)) (all_entries bytes c.self.invariant.accepted.checked.spelled);
    }

pub returns-clause-accepted : goal.returns-clause-accepted
returns-clause-accepted c = subst IsAccepted c.self.view_is c.self.invariant.accepted

pub returns-clause-conditions : goal.returns-clause-conditions
returns-clause-conditions c =
    let its = c.deref.result.now in
    let bytes = c.self.inside.ifr.now in
    let again = ap (map (λ (kept : ConditionEntry). node_in bytes kept.place)) (c.deref.ensures.value ∙ c.self.invariant.index.conditions) ∙ all_conditions_again bytes c.self.invariant.accepted.checked.spelled in
    subst (λ (b : List ℕ). map (λ (kept : ConditionEntry). node_in bytes kept.place) its ≡ filter is_question_condition (nodes_of b)) c.self.view_is again
