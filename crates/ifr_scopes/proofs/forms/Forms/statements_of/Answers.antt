use Rattle.std.proofs.Common.{◌≡◌, ℕ, List, sym, ap, subst, ◌∙◌}
use Rattle.ifr_nodes.specs.code.Checked.{IsNodeOf}
use Rattle.ifr_scopes.specs.code.Lists.{form_node}
use Rattle.ifr_index.specs.code.Tables.{AreEntries}
use Rattle.ifr_index.proofs.OptionsOfLemmas.{are_behind}
use Rattle.ifr_scopes.proofs.StatementsOfLemmas.{all_behind, statements_kept}
use Rattle.ifr_scopes.proofs.forms.Forms.statements_of.Goals as goal

pub invariant_of-result : goal.invariant_of-result
invariant_of-result c =
    let bytes = c.self.inside.ifr.now in
    let checked = c.self.invariant.accepted.checked in
    let behind : c.entries_from-position.result.0.now ≡ all_behind bytes (form_node c.args.form) = c.entries_from-position.ensures ∙ ap (λ (b : List ℕ). all_behind b (form_node c.args.form)) (sym c.self.view_is) in
    record {
      checked = checked;
      entries = subst (AreEntries bytes) (sym behind) (are_behind bytes (form_node c.args.form) checked);
    }

pub returns : goal.returns
returns c =
    let q = form_node c.args.form in
    let bytes = c.self.inside.ifr.now in
    let behind : c.entries_from-position.result.0.now ≡ all_behind bytes q = c.entries_from-position.ensures ∙ ap (λ (b : List ℕ). all_behind b q) (sym c.self.view_is) in
    let node = subst (λ (b : List ℕ). IsNodeOf b q) (sym c.self.view_is) c.requires.node in
    statements_kept bytes q c.entries_from-position.result.0.now c.self.invariant.accepted.checked node c.args.form.form behind
