use Rattle.std.proofs.Common.{◌≡◌, ℕ, Bool, List, arith, sym, ap, subst, ◌∙◌}
use Rattle.std.specs.Prelude.{filter}
use Rattle.std.proofs.lemmas.List.Elements.{All-filter}
use Rattle.hii_bytes.specs.Watching.{pen_of}
use Rattle.ifr_opcodes.specs.Forest.{Node}
use Rattle.ifr_nodes.specs.Nodes.{nodes_of}
use Rattle.ifr_nodes.specs.Rules.{is_rule}
use Rattle.ifr_nodes.specs.code.Checked.{AreNodesOf, IsNodeOf}
use Rattle.ifr_nodes.proofs.ConditionLemmas.{place_below}
use Rattle.ifr_nodes.proofs.ScopeLemmas.{all_nodes}
use Rattle.ifr_nodes.proofs.ViewLemmas.{contains_found}
use Rattle.ifr_scopes.specs.code.Lists.{rule_node, rules_left}
use Rattle.hii_questions.specs.code.Views.{question_node}
use Rattle.guard_policy.specs.code.Views.{bytes_of}
use Rattle.guard_policy.specs.declared.policy.Policy.{Policy}
use Rattle.guard_policy.proofs.OptionLemmas.{first_of, rest_of}
use Rattle.question_audit.proofs.AroundLemmas.{same_forms}
use Rattle.question_audit.specs.RuleFacts.{is_named, rule_fact}
use Rattle.question_audit.proofs.FactLemmas.{all_left, past_failing, past_passing}
use Rattle.question_audit.proofs.rule_facts.put_rules.Goals as goal

abbrev is_told : List Node → Node → Node → Bool
is_told ns n r = is_named ns n r.place

pub loop-rule-init : goal.loop-rule-init
loop-rule-init g c =
    let page = c.args.page in
    let bytes = bytes_of page.policy in
    let ns = nodes_of bytes in
    let n = question_node c.args.question in
    let all = c.rules-rules.ensures ∙ ap (λ (b : List ℕ). filter is_rule (nodes_of b)) (same_forms _ c.policy-2.result page.policy c.forms-forms.ensures c.policy-2.ensures) in
    record {
      written = all_left (rule_fact c.args.package_place) (pen_of g.W.Write.contents c.args.out.now) (filter (is_told ns n) (filter is_rule ns)) (filter (is_told ns n) (rules_left c.rules-rules.result)) (ap (filter (is_told ns n)) all);
      nodes = subst (AreNodesOf bytes) (sym all) (All-filter is_rule (IsNodeOf bytes) ns (all_nodes bytes page.policy.accepted.checked.spelled));
    }

pub put_rule-requires-clause-node : goal.put_rule-requires-clause-node
put_rule-requires-clause-node g c =
    let page = c.args.page in
    let r = rule_node c.in-Some.rule in
    let own = same_forms c.forms-forms.result.now c.policy-2.result page.policy c.forms-forms.ensures c.policy-2.ensures in
    subst (λ (b : List ℕ). IsNodeOf b r) (sym own) (first_of (bytes_of page.policy) _ r _ c.in-Some.ensures.steps c.loop-rule.invariant.nodes)

pub put_rule-requires-clause-in_list : goal.put_rule-requires-clause-in_list
put_rule-requires-clause-in_list g c =
    let bytes = bytes_of c.args.page.policy in
    let r = rule_node c.in-Some.rule in
    let node = first_of bytes _ r _ c.in-Some.ensures.steps c.loop-rule.invariant.nodes in
    let below = place_below bytes r c.args.page.policy.accepted.checked (contains_found (nodes_of bytes) r.place r node) in
    omega (arith, below, c.requires.in_list)

pub loop-rule-preserved-then-has_place : goal.loop-rule-preserved-then-has_place
loop-rule-preserved-then-has_place g c =
    let page = c.args.page in
    let ns = nodes_of (bytes_of page.policy) in
    let n = question_node c.args.question in
    let r = rule_node c.in-Some.rule in
    let known : c.has_place.result ≡ is_told ns n r =
    c.has_place.ensures ∙ c.in_ok-places.ensures c.place.result ∙ ap (λ (p : Policy). is_named (nodes_of (bytes_of p)) n c.place.result) c.policy.ensures ∙ ap (is_named ns n) c.place.ensures in
    record {
      written = past_passing (rule_fact c.args.package_place) (is_told ns n) _ _ _ _ _ _ r c.in-Some.ensures.steps (sym known ∙ c.if-has_place.true) c.loop-rule.invariant.written c.put_rule.ensures;
      nodes = rest_of (bytes_of page.policy) _ _ _ c.in-Some.ensures.steps c.loop-rule.invariant.nodes;
    }

pub loop-rule-preserved : goal.loop-rule-preserved
loop-rule-preserved g c =
    let page = c.args.page in
    let ns = nodes_of (bytes_of page.policy) in
    let n = question_node c.args.question in
    let r = rule_node c.in-Some.rule in
    let known : c.has_place.result ≡ is_told ns n r =
    c.has_place.ensures ∙ c.in_ok-places.ensures c.place.result ∙ ap (λ (p : Policy). is_named (nodes_of (bytes_of p)) n c.place.result) c.policy.ensures ∙ ap (is_named ns n) c.place.ensures in
    record {
      written = past_failing (rule_fact c.args.package_place) (is_told ns n) _ _ _ _ _ r c.in-Some.ensures.steps (sym known ∙ c.if-has_place.false) c.loop-rule.invariant.written;
      nodes = rest_of (bytes_of page.policy) _ _ _ c.in-Some.ensures.steps c.loop-rule.invariant.nodes;
    }
