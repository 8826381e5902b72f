use Rattle.std.proofs.Common.{Some, sym, ap, ◌∙◌, arith}
use Rattle.std.specs.Prelude.{option_map}
use Rattle.ifr_expr.specs.Meaning.{Rule}
use Rattle.ifr_expr.specs.Trees.{Tree}
use Rattle.ifr_nodes.specs.Nodes.{nodes_of}
use Rattle.ifr_nodes.specs.Rules.{rule_nodes}
use Rattle.ifr_nodes.specs.code.Views.{node_of}
use Rattle.ifr_scopes.proofs.RuleLookupLemmas.{named_none, named_some, named_before}
use Rattle.ifr_scopes.proofs.forms.FormsRules.rule.Goals as goal

pub returns-in_err-node-clause-named : goal.returns-in_err-node-clause-named
returns-in_err-node-clause-named c =
    let none = named_none (rule_nodes (nodes_of c.args.self.now)) c.args.id c.args.place (sym c.in_err-node.ensures.named) in
    rw c.from_residual.ensures (sym (ap (option_map (λ (r : Rule). r.tree)) none))

pub returns-clause-named : goal.returns-clause-named
returns-clause-named c =
    let named = named_some (rule_nodes (nodes_of c.args.self.now)) c.args.id c.args.place (node_of c.in_ok-node.node) (sym c.in_ok-node.ensures.named) in
    ap (λ (t : Tree). Some t) c.expression_of.ensures.tree ∙ sym (ap (option_map (λ (r : Rule). r.tree)) named)

pub returns-clause-before : goal.returns-clause-before
returns-clause-before c =
    let before = named_before (rule_nodes (nodes_of c.args.self.now)) c.args.id c.args.place (node_of c.in_ok-node.node) (sym c.in_ok-node.ensures.named) in
    omega (arith, c.expression_of.ensures.within, before)
