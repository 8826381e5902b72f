use Rattle.std.proofs.Common.{◌≡◌, not, refl, sym, ap, subst, ◌∙◌}
use Rattle.std.proofs.lemmas.Int.{to_z-of_z}
use Rattle.ifr_opcodes.specs.Forest.{Node}
use Rattle.ifr_nodes.specs.code.Checked.{node_in}
use Rattle.ifr_scopes.specs.code.Lists.{statement_node}
use Rattle.hii_values.specs.Inputs.{is_offered}
use Rattle.hii_values.specs.code.ChoiceViews.{choice_values}
use Rattle.hii_values.specs.code.OptionPlaces.{AreWithValue}
use Rattle.hii_values.proofs.OptionTableLemmas.{node_of_place, offered_as, offered_where_found}
use Rattle.hii_values.proofs.choices.Choices.value_in.Goals as goal
use Rattle.hii_values.proofs.choices.Choices.value_in.Goals.{After-is_empty}

-- Some option has the value where a place is found.
has : (c : After-is_empty) → is_offered (choice_values c.args.self) c.in-Ok.value ≡ not c.is_empty.result
has c =
    let q = statement_node c.args.self.question in
    let bytes = c.args.table.now in
    let same : node_in bytes c.place.result ≡ q = ap (node_in bytes) c.place.ensures ∙ node_of_place bytes q c.requires in
    let are = subst (λ (n : Node). AreWithValue bytes n c.in-Ok.value c.in-Some.found.places.now) same c.in-Some.ensures in
    offered_where_found bytes q c.in-Ok.value c.in-Some.found.places.now are ∙ ap not (sym c.is_empty.ensures)

pub returns-then-is_empty : goal.returns-then-is_empty
returns-then-is_empty c =
    let fits = simp (to_z-of_z, c.ranges.number) at c.in-Ok.ensures in
    sym (offered_as (choice_values c.args.self) c.args.number c.in-Ok.value fits.0 fits.1 ∙ rw (has (goal.at.returns-then-is_empty c).After-is_empty, c.if-is_empty.true) refl)

pub returns-else-is_empty : goal.returns-else-is_empty
returns-else-is_empty c =
    let fits = simp (to_z-of_z, c.ranges.number) at c.in-Ok.ensures in
    sym (offered_as (choice_values c.args.self) c.args.number c.in-Ok.value fits.0 fits.1 ∙ rw (has (goal.at.returns-else-is_empty c).After-is_empty, c.if-is_empty.false) refl)
