use Rattle.std.proofs.Common.{ap, sym, subst, ◌∙◌}
use Rattle.ifr_nodes.specs.code.Checked.{IsNodeOf}
use Rattle.ifr_scopes.specs.code.Lists.{form_node, statement_node}
use Rattle.guard_policy.specs.laws.Support.{conditions, IsSubjectOf}
use Rattle.guard_policy.specs.code.Views.{world}
use Rattle.guard_policy.proofs.IndexedLemmas.{of_form, of_statement}
use Rattle.guard_policy.proofs.decision_conditions.DecisionConditions.of.Goals as goal

pub of-requires-clause-node : goal.of-requires-clause-node
of-requires-clause-node c = subst (IsSubjectOf c.args.policy.forms.now) c.in-OptionOpen.is c.requires

pub returns-in-Listed : goal.returns-in-Listed
returns-in-Listed c = λ stores.
    let n = statement_node c.in-Listed.statement in
    let node : IsNodeOf c.args.policy.forms.now n = subst (IsSubjectOf c.args.policy.forms.now) c.in-Listed.is c.requires in
    c.hiding.ensures n node (of_statement n c.in-Listed.statement.statement) (sym c.place.ensures) ∙ ap (conditions (world c.args.policy stores)) (sym c.in-Listed.is)

pub returns-in-Changeable : goal.returns-in-Changeable
returns-in-Changeable c = λ stores.
    let n = statement_node c.in-Changeable.statement in
    let node : IsNodeOf c.args.policy.forms.now n = subst (IsSubjectOf c.args.policy.forms.now) c.in-Changeable.is c.requires in
    c.changing.ensures n node (of_statement n c.in-Changeable.statement.statement) (sym c.place-in-Changeable.ensures) ∙ ap (conditions (world c.args.policy stores)) (sym c.in-Changeable.is)

pub returns-in-Opens : goal.returns-in-Opens
returns-in-Opens c = λ stores.
    let n = form_node c.in-Opens.form in
    let node : IsNodeOf c.args.policy.forms.now n = subst (IsSubjectOf c.args.policy.forms.now) c.in-Opens.is c.requires in
    c.hiding-in-Opens.ensures n node (of_form n c.in-Opens.form.form) (sym c.place-in-Opens.ensures) ∙ ap (conditions (world c.args.policy stores)) (sym c.in-Opens.is)
