use Rattle.std.proofs.Common.{◌++◌, ◌∷◌, [], ℕ, List, length, arith, ap, sym, ◌∙◌}
use Rattle.std.specs.List.{flat_map}
use Rattle.std.proofs.lemmas.List.{length-append}
use Rattle.ifr_expr.specs.References.{references}
use Rattle.ifr_expr.specs.code.Expressions.{tree_of}
use Rattle.ifr_expr.specs.declared.references.RuleReference.{RuleReference}
use Rattle.ifr_expr.specs.declared.references.RuleReferences.{RuleReferences}
use Rattle.ifr_nodes.specs.Nodes.{nodes_of}
use Rattle.ifr_nodes.specs.Rules.{rules_among}
use Rattle.ifr_scopes.specs.code.Lists.{rule_node}
use Rattle.hii_questions.specs.code.Views.{question_view}
use Rattle.question_audit.specs.RuleFacts.{references_over, rule_references}
use Rattle.question_audit.proofs.NamingLemmas.{entered, frames_left, passed_over}
use Rattle.unlock_audit.specs.Constants.{named_constants, rule_constants, tree_constants}
use Rattle.unlock_audit.specs.code.Offered.{offered_near}
use Rattle.unlock_audit.proofs.OfferedLemmas.{near_left, near_passed}
use Rattle.unlock_audit.proofs.constants.Numeric.add_named.Goals as goal

pub loop-references-smaller-in-Continue-branch-4 : goal.loop-references-smaller-in-Continue-branch-4
loop-references-smaller-in-Continue-branch-4 c =
    let bytes = c.args.forms.now in
    let old = c.loop-references.frames.items in
    let below = c.pop.new.self.items in
    let mid = c.push-in-Some.new.self.items in
    let new = c.push-in-Some-rule_named.new.self.items in
    let it = c.in-Some.references in
    let next = c.next.new.self in
    let its = c.references-in-Some-rule_named.result in
    let on = entered bytes old below mid new it next its c.in-Some-next.reference (rule_node c.in-Some-rule_named.rule) c.bytes.ensures.accepted.checked c.in-Some.ensures.items c.in_ok-push-2.ensures.items c.in_ok-push-3.ensures.items
    c.in-Some-next.ensures.steps c.in-Some-rule_named.ensures (c.references-in-Some-rule_named.ensures ∙ ap references c.expression-named.ensures) in
    omega (
      arith,
      ap (λ (l : List RuleReference). length l) on.left,
      ap (λ (l : List RuleReferences). length l) c.in-Some.ensures.items,
      ap (λ (l : List RuleReferences). length l) c.in_ok-push-2.ensures.items,
      ap (λ (l : List RuleReferences). length l) c.in_ok-push-3.ensures.items,
      length-append below (it ∷ []),
      length-append below (next ∷ []),
      length-append mid (its ∷ []),
    )

pub loop-references-preserved-in-Continue-branch-4 : goal.loop-references-preserved-in-Continue-branch-4
loop-references-preserved-in-Continue-branch-4 c =
    let bytes = c.args.forms.now in
    let ns = nodes_of bytes in
    let rules = rules_among ns in
    let q = question_view c.args.self.question in
    let n = rule_node c.in-Some-rule_named.rule in
    let r = c.in-Some-next.reference in
    let old = c.loop-references.frames.items in
    let new = c.push-in-Some-rule_named.new.self.items in
    let on = entered bytes old c.pop.new.self.items c.push-in-Some.new.self.items new c.in-Some.references c.next.new.self c.references-in-Some-rule_named.result r n
    c.bytes.ensures.accepted.checked c.in-Some.ensures.items c.in_ok-push-2.ensures.items c.in_ok-push-3.ensures.items c.in-Some-next.ensures.steps c.in-Some-rule_named.ensures (c.references-in-Some-rule_named.ensures ∙ ap references c.expression-named.ensures) in
    near_left q c.loop-references.values.keys c.add_expression.new.values.keys (flat_map (named_constants ns) (frames_left rules old)) (named_constants ns r) (flat_map (named_constants ns) (frames_left rules new))
    (flat_map (named_constants ns) (references_over (rule_references rules) (tree_of c.args.expression))) c.args.values.now.keys
    (ap (flat_map (named_constants ns)) on.left) (c.in_ok-add_expression.ensures ∙ ap (offered_near q c.loop-references.values.keys) (ap tree_constants c.expression-named.ensures ∙ ap rule_constants c.in-Some-rule_named.ensures)) c.loop-references.invariant

-- no rule is named
pub loop-references-preserved : goal.loop-references-preserved
loop-references-preserved c =
    let ns = nodes_of c.args.forms.now in
    let rules = rules_among ns in
    let q = question_view c.args.self.question in
    let none = c.in_default-rule_named.ensures in
    let r = c.in-Some-next.reference in
    let old = c.loop-references.frames.items in
    let new = c.push-in-Some.new.self.items in
    let on = passed_over ns old c.pop.new.self.items new c.in-Some.references c.next.new.self r c.in-Some.ensures.items c.in_ok-push-2.ensures.items c.in-Some-next.ensures.steps none in
    near_passed q c.loop-references.values.keys (flat_map (named_constants ns) (frames_left rules old)) (flat_map (named_constants ns) (frames_left rules new)) (flat_map (named_constants ns) (references_over (rule_references rules) (tree_of c.args.expression)))
    c.args.values.now.keys (ap (flat_map (named_constants ns)) on.left ∙ ap (λ (l : List ℕ). l ++ flat_map (named_constants ns) (frames_left rules new)) (ap rule_constants (sym none))) c.loop-references.invariant
