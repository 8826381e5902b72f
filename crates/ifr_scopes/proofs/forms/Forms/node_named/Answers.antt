use Rattle.std.proofs.Common.{ap, sym, subst, ◌∙◌, List, ℕ, Some}
use Rattle.ifr_opcodes.specs.Forest.{Node}
use Rattle.ifr_expr.specs.code.Rules.{AreOrdered}
use Rattle.ifr_nodes.specs.Nodes.{nodes_of}
use Rattle.ifr_nodes.specs.Rules.{is_rule, rule_nodes}
use Rattle.ifr_nodes.specs.code.Rules.{rules_of}
use Rattle.ifr_scopes.proofs.RuleLookupLemmas.{IsFoundRule, named_node, found_rule, no_rule_named}
use Rattle.ifr_nodes.proofs.RuleOrderLemmas.{descend_of}
use Rattle.ifr_scopes.proofs.RulesOrderedLemmas.{are_ordered}
use Rattle.ifr_scopes.proofs.forms.Forms.node_named.Goals as goal
use Rattle.ifr_scopes.proofs.forms.Forms.node_named.Goals.{In_ok-rule}

pub returns-in_err-rule-clause-ordered : goal.returns-in_err-rule-clause-ordered
returns-in_err-rule-clause-ordered c = subst (λ (b : List ℕ). AreOrdered (rules_of b)) c.self.view_is (are_ordered c.self.inside.ifr.now c.self.invariant.accepted.checked)

pub returns-clause-ordered : goal.returns-clause-ordered
returns-clause-ordered c = subst (λ (b : List ℕ). AreOrdered (rules_of b)) c.self.view_is (are_ordered c.self.inside.ifr.now c.self.invariant.accepted.checked)

pub returns-in_err-rule-clause-named : goal.returns-in_err-rule-clause-named
returns-in_err-rule-clause-named c =
    let bytes = c.self.inside.ifr.now in
    let told = c.in_err-rule.ensures (nodes_of bytes) c.self.invariant.rules (descend_of bytes c.self.invariant.accepted.checked) in
    rw c.from_residual.ensures (sym (ap (λ (b : List ℕ). named_node (rule_nodes (nodes_of b)) c.args.id c.args.place) (sym c.self.view_is) ∙ no_rule_named (rule_nodes (nodes_of bytes)) c.args.id c.args.place told))

-- the rule that was found
its : (c : In_ok-rule) → IsFoundRule c.self.inside.ifr.now c.args.id c.args.place c.in_ok-rule.rule
its c =
    let bytes = c.self.inside.ifr.now in
    let checked = c.self.invariant.accepted.checked in
    found_rule bytes c.args.id c.args.place c.in_ok-rule.rule checked (c.in_ok-rule.ensures (nodes_of bytes) c.self.invariant.rules (descend_of bytes checked))

pub node_at-requires-clause-there : goal.node_at-requires-clause-there
node_at-requires-clause-there c = (its (goal.at.node_at-requires-clause-there c).In_ok-rule).there

pub returns-clause-rule : goal.returns-clause-rule
returns-clause-rule c = ap is_rule c.node_at.ensures.node ∙ (its (goal.at.returns-clause-rule c).In_ok-rule).rule

pub returns-clause-named : goal.returns-clause-named
returns-clause-named c =
    let found = its (goal.at.returns-clause-named c).In_ok-rule in
    ap (λ (n : Node). Some n) c.node_at.ensures.node ∙ sym found.is ∙ ap (λ (b : List ℕ). named_node (rule_nodes (nodes_of b)) c.args.id c.args.place) c.self.view_is
