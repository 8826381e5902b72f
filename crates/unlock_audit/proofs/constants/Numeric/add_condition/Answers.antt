use Rattle.std.proofs.Common.{ap, ◌∙◌}
use Rattle.std.specs.List.{flat_map}
use Rattle.ifr_expr.specs.Trees.{Tree}
use Rattle.ifr_nodes.specs.NodeExpressions.{expression_tree}
use Rattle.ifr_nodes.specs.Nodes.{nodes_of}
use Rattle.ifr_nodes.specs.Rules.{rules_among}
use Rattle.ifr_scopes.specs.code.Lists.{guard_node}
use Rattle.hii_questions.specs.code.Views.{question_view}
use Rattle.question_audit.specs.RuleFacts.{references_over, rule_references}
use Rattle.unlock_audit.specs.Constants.{named_constants, tree_constants}
use Rattle.unlock_audit.specs.code.Offered.{offered_near}
use Rattle.unlock_audit.proofs.AskingLemmas.{on_ok}
use Rattle.unlock_audit.proofs.OfferedLemmas.{near_more}
use Rattle.unlock_audit.proofs.constants.Numeric.add_condition.Goals as goal

pub returns : goal.returns
returns c =
    let ns = nodes_of c.args.forms.now in
    let q = question_view c.args.self.question in
    let old = c.args.values.now.keys in
    let mid = c.add_expression.new.values.keys in
    let tree = expression_tree (guard_node c.args.guard) in
    let named = λ (t : Tree). flat_map (named_constants ns) (references_over (rule_references (rules_among ns)) t) in
    on_ok c.add_named.result
    (λ h. near_more q old mid c.add_named.new.values.keys (tree_constants tree) (named tree) (c.in_ok-add_expression.ensures ∙ ap (λ (t : Tree). offered_near q old (tree_constants t)) c.condition-condition.ensures)
    (h ∙ ap (λ (t : Tree). offered_near q mid (named t)) c.condition-condition.ensures))
    c.add_named.ensures
