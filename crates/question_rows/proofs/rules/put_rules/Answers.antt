use Rattle.std.proofs.Common.{◌≡◌, ℕ, Bool, List, sym, ap, subst, ◌∙◌}
use Rattle.std.specs.Prelude.{filter}
use Rattle.std.proofs.lemmas.List.Elements.{All-filter}
use Rattle.hii_bytes.specs.Watching.{pen_of}
use Rattle.ifr_opcodes.specs.Forest.{Node}
use Rattle.ifr_nodes.specs.Nodes.{nodes_of}
use Rattle.ifr_nodes.specs.Rules.{is_rule}
use Rattle.ifr_nodes.specs.code.Checked.{AreNodesOf, IsNodeOf}
use Rattle.ifr_nodes.proofs.ScopeLemmas.{all_nodes}
use Rattle.ifr_scopes.specs.code.Lists.{rule_node, rules_left}
use Rattle.hii_questions.specs.code.Views.{question_node}
use Rattle.guard_policy.specs.code.Views.{bytes_of}
use Rattle.guard_policy.specs.declared.policy.Policy.{Policy}
use Rattle.guard_policy.proofs.OptionLemmas.{first_of, rest_of}
use Rattle.question_audit.proofs.AroundLemmas.{same_forms}
use Rattle.question_audit.specs.RuleFacts.{is_named}
use Rattle.question_audit.proofs.BeginningLemmas.{at_error, stands_begun}
use Rattle.question_audit.proofs.FactLemmas.{all_left, past_failing, past_passing}
use Rattle.question_audit.proofs.OptionLemmas.{nothing_begun}
use Rattle.question_rows.specs.Conditions.{rule_part}
use Rattle.question_rows.proofs.rules.put_rules.Goals as goal
use Rattle.question_rows.proofs.rules.put_rules.Goals.{After-has_place}

abbrev is_told : List Node → Node → Node → Bool
is_told ns n r = is_named ns n r.place

-- whether the next rule is one
known : (g : _) (c : After-has_place g) → c.has_place.result ≡ is_told (nodes_of (bytes_of c.args.page.policy)) (question_node c.args.question) (rule_node c.in-Some.rule)
known g c =
    let page = c.args.page in
    let n = question_node c.args.question in
    c.has_place.ensures ∙ c.in_ok-places.ensures c.place.result ∙ ap (λ (p : Policy). is_named (nodes_of (bytes_of p)) n c.place.result) c.policy.ensures ∙ ap (is_named (nodes_of (bytes_of page.policy)) n) c.place.ensures

pub loop-rule-init : goal.loop-rule-init
loop-rule-init g c =
    let page = c.args.page in
    let bytes = bytes_of page.policy in
    let ns = nodes_of bytes in
    let n = question_node c.args.question in
    let all = c.rules-rules.ensures ∙ ap (λ (b : List ℕ). filter is_rule (nodes_of b)) (same_forms _ c.policy-2.result page.policy c.forms.ensures c.policy-2.ensures) in
    record {
      written = all_left (rule_part ns) (pen_of g.W.Write.contents c.args.out.now) (filter (is_told ns n) (filter is_rule ns)) (filter (is_told ns n) (rules_left c.rules-rules.result)) (ap (filter (is_told ns n)) all);
      nodes = subst (AreNodesOf bytes) (sym all) (All-filter is_rule (IsNodeOf bytes) ns (all_nodes bytes page.policy.accepted.checked.spelled));
    }

pub returns-in_err-places-clause-begun : goal.returns-in_err-places-clause-begun
returns-in_err-places-clause-begun g c = at_error c.from_residual.result (nothing_begun _ _)

pub put_rule-requires : goal.put_rule-requires
put_rule-requires g c = first_of (bytes_of c.args.page.policy) _ (rule_node c.in-Some.rule) _ c.in-Some.ensures.steps c.loop-rule.invariant.nodes

pub loop-rule-preserved-in-Continue-branch-2 : goal.loop-rule-preserved-in-Continue-branch-2
loop-rule-preserved-in-Continue-branch-2 g c =
    let bytes = bytes_of c.args.page.policy in
    let ns = nodes_of bytes in
    let r = rule_node c.in-Some.rule in
    let is = known g (goal.at.loop-rule-preserved-in-Continue-branch-2 g c).After-has_place in
    record {
      written = past_passing (rule_part ns) (is_told ns (question_node c.args.question)) _ _ _ _ _ _ r c.in-Some.ensures.steps (sym is ∙ c.if-has_place.true) c.loop-rule.invariant.written c.in_ok-put_rule.ensures.told;
      nodes = rest_of bytes _ _ _ c.in-Some.ensures.steps c.loop-rule.invariant.nodes;
    }

pub loop-rule-preserved : goal.loop-rule-preserved
loop-rule-preserved g c =
    let bytes = bytes_of c.args.page.policy in
    let ns = nodes_of bytes in
    let r = rule_node c.in-Some.rule in
    let is = known g (goal.at.loop-rule-preserved g c).After-has_place in
    record {
      written = past_failing (rule_part ns) (is_told ns (question_node c.args.question)) _ _ _ _ _ r c.in-Some.ensures.steps (sym is ∙ c.if-has_place.false) c.loop-rule.invariant.written;
      nodes = rest_of bytes _ _ _ c.in-Some.ensures.steps c.loop-rule.invariant.nodes;
    }

pub returns-in_err-put_rule-clause-begun : goal.returns-in_err-put_rule-clause-begun
returns-in_err-put_rule-clause-begun g c = at_error c.from_residual-in_err-put_rule.result (rw c.in_err-put_rule.ensures.nothing (stands_begun c.loop-rule.invariant.written))
