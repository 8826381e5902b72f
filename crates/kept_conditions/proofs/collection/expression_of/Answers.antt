use Rattle.std.proofs.Common.{◌≡◌, refl, sym, ap, ◌∙◌, subst}
use Rattle.std.specs.Prelude.{IsSome}
use Rattle.std.proofs.lemmas.Bool.{cond-true, cond-false}
use Rattle.std.proofs.lemmas.Option.{same_Some}
use Rattle.ifr_scopes.specs.code.Lists.{rule_node}
use Rattle.ifr_nodes.specs.NodeExpressions.{expression_tree}
use Rattle.ifr_nodes.specs.Nodes.{nodes_of, this_of}
use Rattle.ifr_nodes.specs.Rules.{is_rule}
use Rattle.kept_conditions.specs.code.Collection.{dependent_node}
use Rattle.kept_conditions.proofs.ExpressionLemmas.{condition_there, next_rule, rules_stay}
use Rattle.kept_conditions.proofs.collection.expression_of.Goals as goal

pub returns-in-Some-clause-is : goal.returns-in-Some-clause-is
returns-in-Some-clause-is c =
    let n = dependent_node (nodes_of c.args.source.forms.now) c.args.number in
    let is = condition_there c.args.source.forms.now c.args.source.accepted c.args.number c.requires.inside _ c.place_of.result c.place_of.ensures.place c.in-Some.ensures in
    record { tree = c.condition.ensures ∙ ap expression_tree is.0; this = c.this.ensures ∙ ap this_of is.0 ∙ sym (cond-false (is_rule n) 0 (this_of n) is.1); rule = sym is.1 }

pub returns-in-Some-clause-left : goal.returns-in-Some-clause-left
returns-in-Some-clause-left c =
    let is = condition_there c.args.source.forms.now c.args.source.accepted c.args.number c.requires.inside _ c.place_of.result c.place_of.ensures.place c.in-Some.ensures in
    c.requires.left ∙ rules_stay c.args.source.forms.now c.args.source.accepted c.args.number c.requires.inside is.1

pub unwrap-rule-requires : goal.unwrap-rule-requires
unwrap-rule-requires c =
    let it = next_rule c.args.source.forms.now c.args.source.accepted c.args.number c.requires.inside c.place_of.result c.place_of.ensures.place c.in_default.ensures c.args.rules.now c.next.new.self c.next.result c.requires.left c.next.ensures.steps in
    subst IsSome (sym it.2) refl

pub returns-clause-is : goal.returns-clause-is
returns-clause-is c =
    let n = dependent_node (nodes_of c.args.source.forms.now) c.args.number in
    let it = next_rule c.args.source.forms.now c.args.source.accepted c.args.number c.requires.inside c.place_of.result c.place_of.ensures.place c.in_default.ensures c.args.rules.now c.next.new.self c.next.result c.requires.left c.next.ensures.steps in
    let same : rule_node c.unwrap-rule.result ≡ n = ap rule_node (same_Some c.unwrap-rule.result it.1 (sym c.unwrap-rule.ensures ∙ it.2)) ∙ it.3 in
    record { tree = c.expression.ensures ∙ ap expression_tree same; this = sym (cond-true (is_rule n) 0 (this_of n) it.0); rule = sym it.0 }

pub returns-clause-left : goal.returns-clause-left
returns-clause-left c =
    let it = next_rule c.args.source.forms.now c.args.source.accepted c.args.number c.requires.inside c.place_of.result c.place_of.ensures.place c.in_default.ensures c.args.rules.now c.next.new.self c.next.result c.requires.left c.next.ensures.steps in
    it.4
