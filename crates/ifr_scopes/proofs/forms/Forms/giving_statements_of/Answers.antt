use Rattle.std.proofs.Common.{◌≡◌, ℕ, List, nat_lt, sym, ap, subst, ◌∙◌}
use Rattle.std.specs.Prelude.{filter}
use Rattle.hii_bytes.specs.code.FirstFaults.{Rise}
use Rattle.ifr_nodes.specs.Nodes.{nodes_of}
use Rattle.ifr_nodes.specs.code.Checked.{IsNodeOf}
use Rattle.ifr_index.specs.code.Giving.{is_giving, AreGiving}
use Rattle.ifr_scopes.specs.code.Lists.{form_node}
use Rattle.ifr_index.specs.code.Tables.{AreEntries, places_of}
use Rattle.ifr_index.specs.declared.index.Entry.{Entry}
use Rattle.ifr_scopes.proofs.GivingOfLemmas.{giving_behind, giving_rises, giving_stated}
use Rattle.ifr_index.proofs.OptionsOfLemmas.{are_behind}
use Rattle.ifr_scopes.proofs.StatementsOfLemmas.{all_behind, statements_kept}
use Rattle.ifr_scopes.proofs.forms.Forms.giving_statements_of.Goals as goal
use Rattle.ifr_scopes.proofs.forms.Forms.giving_statements_of.Goals.{After-places_behind}

-- what is kept behind the form, and the places behind it
behind : (c : After-places_behind) → c.entries_from-position.result.0.now ≡ all_behind c.self.inside.ifr.now (form_node c.args.form)
behind c = c.entries_from-position.ensures ∙ ap (λ (b : List ℕ). all_behind b (form_node c.args.form)) (sym c.self.view_is)

places : (c : After-places_behind) → c.places_behind.result.now ≡ filter (λ p. nat_lt (form_node c.args.form).place p) (places_of is_giving (nodes_of c.self.inside.ifr.now))
places c =
    let bytes = c.self.inside.ifr.now in
    let is : c.deref.result.now ≡ places_of is_giving (nodes_of bytes) = c.deref.ensures.value ∙ c.self.invariant.index.giving in
    c.places_behind.ensures 4 (subst (Rise (λ (p : ℕ). p) 4) (sym is) (giving_rises bytes c.self.invariant.accepted.checked))
    ∙ ap (λ (q : ℕ). filter (λ (p : ℕ). nat_lt q p) c.deref.result.now) c.place.ensures
    ∙ ap (filter (λ (p : ℕ). nat_lt (form_node c.args.form).place p)) is

entries : (c : After-places_behind) → AreEntries c.self.inside.ifr.now c.entries_from-position.result.0.now
entries c = subst (AreEntries c.self.inside.ifr.now) (sym (behind c)) (are_behind c.self.inside.ifr.now (form_node c.args.form) c.self.invariant.accepted.checked)

pub invariant_of-result : goal.invariant_of-result
invariant_of-result c =
    let at = (goal.at.invariant_of-result c).After-places_behind in
    let bytes = c.self.inside.ifr.now in
    let checked = c.self.invariant.accepted.checked in
    record {
      checked = checked;
      entries = entries at;
      giving = subst (λ (l : List Entry). AreGiving bytes l c.places_behind.result.now) (sym (behind at)) (giving_behind bytes (form_node c.args.form) c.places_behind.result.now checked (places at));
    }

pub returns : goal.returns
returns c =
    let at = (goal.at.returns c).After-places_behind in
    let q = form_node c.args.form in
    let bytes = c.self.inside.ifr.now in
    let node = subst (λ (b : List ℕ). IsNodeOf b q) (sym c.self.view_is) c.requires.node in
    giving_stated bytes c.entries_from-position.result.0.now (entries at)
    ∙ ap (filter is_giving) (statements_kept bytes q c.entries_from-position.result.0.now c.self.invariant.accepted.checked node c.args.form.form (behind at))
