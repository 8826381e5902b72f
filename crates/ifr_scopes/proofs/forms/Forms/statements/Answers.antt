use Rattle.std.proofs.Common.{◌≡◌, ℕ, List, filter, sym, ap, subst, ◌∙◌}
use Rattle.ifr_nodes.specs.Nodes.{nodes_of, is_statement}
use Rattle.ifr_index.specs.code.Tables.{AreEntries}
use Rattle.ifr_index.proofs.KindLemmas.{all_are_entries, stated, statements_again}
use Rattle.ifr_scopes.proofs.forms.Forms.statements.Goals as goal

pub invariant_of-result : goal.invariant_of-result
invariant_of-result c =
    let bytes = c.self.inside.ifr.now in
    record {
      checked = c.self.invariant.accepted.checked;
      kept = subst (AreEntries bytes) (sym (c.deref.ensures.value ∙ c.self.invariant.index.entries)) (all_are_entries bytes c.self.invariant.accepted.checked.spelled);
    }

pub returns : goal.returns
returns c =
    let its = c.deref.result.now in
    let bytes = c.self.inside.ifr.now in
    let again = ap (stated bytes) (c.deref.ensures.value ∙ c.self.invariant.index.entries) ∙ statements_again bytes c.self.invariant.accepted.checked.spelled in
    subst (λ (b : List ℕ). stated bytes its ≡ filter is_statement (nodes_of b)) c.self.view_is again
