use Rattle.std.proofs.Common.{List, ℕ, ap, subst, ◌∙◌}
use Rattle.std.specs.Prelude.{option_map}
use Rattle.ifr_nodes.specs.Nodes.{nodes_of}
use Rattle.ifr_nodes.specs.ReferenceFaults.{form_with}
use Rattle.ifr_scopes.specs.code.Lists.{form_node}
use Rattle.ifr_scopes.proofs.FormPlaceLemmas.{IsFormWith, form_some, same_form}
use Rattle.ifr_nodes.proofs.FormTableLemmas.{none_with}
use Rattle.ifr_scopes.proofs.forms.Forms.form.Goals as goal

pub returns-in_err-place : goal.returns-in_err-place
returns-in_err-place c =
    let ns = nodes_of c.self.inside.ifr.now in
    let id = c.args.id in
    let is = c.in_err-place.ensures ∙ c.self.invariant.index.forms id in
    ap (option_map form_node) c.from_residual.ensures ∙ none_with ns id is ∙ ap (λ (b : List ℕ). form_with (nodes_of b) id) c.self.view_is

pub form_at-requires : goal.form_at-requires
form_at-requires c =
    let ns = nodes_of c.self.inside.ifr.now in
    let id = c.args.id in
    let is = c.in_ok-place.ensures ∙ c.self.invariant.index.forms id in
    let its = form_some c.self.inside.ifr.now id c.in_ok-place.place c.self.invariant.accepted.checked.spelled is in
    (subst (λ (bytes : List ℕ). IsFormWith bytes id c.in_ok-place.place) c.self.view_is its).stands

pub returns : goal.returns
returns c =
    let ns = nodes_of c.self.inside.ifr.now in
    let id = c.args.id in
    let is = c.in_ok-place.ensures ∙ c.self.invariant.index.forms id in
    let its = form_some c.self.inside.ifr.now id c.in_ok-place.place c.self.invariant.accepted.checked.spelled is in
    same_form c.args.self.now id c.in_ok-place.place (form_node c.form_at.result) (subst (λ (bytes : List ℕ). IsFormWith bytes id c.in_ok-place.place) c.self.view_is its) c.form_at.ensures.place c.form_at.ensures.node
