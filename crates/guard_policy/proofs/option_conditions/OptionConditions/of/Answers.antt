use Rattle.std.proofs.Common.{◌≡◌, ◌∙◌, sym, ap, subst, List}
use Rattle.std.specs.Prelude.{filter, ◌==◌}
use Rattle.std.specs.List.{flat_map}
use Rattle.ifr_opcodes.specs.Fields.{option_value}
use Rattle.ifr_opcodes.specs.Forest.{Node}
use Rattle.ifr_nodes.specs.code.Checked.{AreNodesOf}
use Rattle.ifr_nodes.specs.Nodes.{options}
use Rattle.ifr_scopes.specs.code.OptionsLeft.{options_of_left}
use Rattle.hii_questions.specs.code.Views.{question_node}
use Rattle.guard_policy.specs.laws.Support.{around}
use Rattle.hii_values.proofs.OptionLemmas.{options_are_nodes}
use Rattle.guard_policy.proofs.option_conditions.OptionConditions.of.Goals as goal

pub invariant_of-result : goal.invariant_of-result
invariant_of-result c =
    let q = question_node c.args.question in
    let all : options_of_left c.options_of-options.result ≡ options q = c.options_of-options.ensures ∙ ap options c.statement.ensures in
    record { nodes = subst (AreNodesOf c.args.forms.now) (sym all) (options_are_nodes c.args.forms.now q c.requires.accepted.checked.spelled c.requires.node) }

pub returns : goal.returns
returns c =
    let q = question_node c.args.question in
    let all : options_of_left c.options_of-options.result ≡ options q = c.options_of-options.ensures ∙ ap options c.statement.ensures in
    ap (λ (os : List Node). flat_map around (filter (λ o. option_value o.op == c.args.value) os)) all
