use Rattle.std.proofs.Common.{◌≡◌, ℕ, List, Some, sym, ap, ◌∙◌, subst, IfSome}
use Rattle.std.specs.List.{find}
use Rattle.ifr_expr.specs.Meaning.{names}
use Rattle.ifr_expr.specs.code.Rules.{AreOrdered}
use Rattle.ifr_expr.specs.code.RuleValues.{IsNumberOf}
use Rattle.ifr_nodes.specs.Nodes.{nodes_of}
use Rattle.ifr_nodes.specs.Rules.{as_rule, rule_nodes}
use Rattle.ifr_nodes.specs.code.Rules.{rules_of}
use Rattle.ifr_nodes.specs.code.Views.{node_of}
use Rattle.ifr_scopes.proofs.RuleNumberLemmas.{numbered, told_if}
use Rattle.ifr_scopes.proofs.forms.FormsNumberedRules.rule_number.Goals as goal

pub returns-clause-ordered : goal.returns-clause-ordered
returns-clause-ordered c = told_if (AreOrdered (rules_of c.args.self.now)) c.number_of.result c.in_ok-node.ensures.ordered

pub returns-clause-number : goal.returns-clause-number
returns-clause-number c =
    let bytes = c.self.inside.ifr.now in
    let id = c.args.id in
    let place = c.args.place in
    let node = node_of c.in_ok-node.node in
    let is : find (λ m. names id place (as_rule m)) (rule_nodes (nodes_of bytes)) ≡ Some node =
    ap (λ (b : List ℕ). find (λ m. names id place (as_rule m)) (rule_nodes (nodes_of b))) c.self.view_is ∙ sym c.in_ok-node.ensures.named in
    let same : c.op.result.place ≡ node.place = search in
    subst (λ (b : List ℕ). IfSome c.number_of.result (IsNumberOf (rules_of b) id place)) c.self.view_is
    (numbered bytes c.deref.result.now c.self.invariant.accepted.checked (c.deref.ensures.value ∙ c.self.invariant.index.rules) id place c.op.result.place node c.number_of.result is same c.number_of.ensures)
