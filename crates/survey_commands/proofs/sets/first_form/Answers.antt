use Rattle.std.proofs.Common.{sym, ◌∙◌}
use Rattle.ifr_scopes.specs.code.Lists.{form_node, forms_left}
use Rattle.ifr_opcodes.specs.Reading.{tree_of}
use Rattle.ifr_nodes.specs.Nodes.{nodes_of, is_form}
use Rattle.ifr_nodes.proofs.PlaceLemmas.{is_found}
use Rattle.browser_commands.proofs.FormLemmas.{yields_some, some_form, first_within}
use Rattle.survey_commands.proofs.sets.first_form.Goals as goal

pub unwrap-requires : goal.unwrap-requires
unwrap-requires c = yields_some form_node forms_left c.forms.result c.next.result c.next.new.self c.next.ensures.steps (λ none. some_form c.args.forms.now c.requires (sym c.forms.ensures ∙ none))

pub returns-clause-node : goal.returns-clause-node
returns-clause-node c =
    let steps = rw c.unwrap.ensures at c.next.ensures.steps in
    is_found c.args.forms.now (tree_of c.args.forms.now) (form_node c.unwrap.result) c.requires.checked.spelled
    (first_within is_form (nodes_of c.args.forms.now) _ _ (sym c.forms.ensures ∙ steps))
