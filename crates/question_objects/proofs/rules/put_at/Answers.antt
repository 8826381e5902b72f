use Rattle.std.proofs.Common.{ℕ, Bool, List, arith, sym, ap, subst, ◌∙◌}
use Rattle.std.specs.Prelude.{filter}
use Rattle.std.proofs.lemmas.List.Elements.{All-filter}
use Rattle.hii_bytes.specs.Watching.{pen_of}
use Rattle.ifr_opcodes.specs.Forest.{Node}
use Rattle.ifr_nodes.specs.Nodes.{nodes_of}
use Rattle.ifr_nodes.specs.Rules.{is_rule}
use Rattle.ifr_nodes.specs.code.Checked.{AreNodesOf, IsNodeOf}
use Rattle.ifr_nodes.proofs.ConditionLemmas.{place_below}
use Rattle.ifr_nodes.proofs.ScopeLemmas.{all_nodes}
use Rattle.ifr_nodes.proofs.ViewLemmas.{contains_found}
use Rattle.ifr_scopes.specs.code.Lists.{rule_node}
use Rattle.guard_policy.specs.code.Views.{bytes_of}
use Rattle.guard_policy.proofs.OptionLemmas.{first_of, rest_of}
use Rattle.question_audit.specs.RuleFacts.{is_named}
use Rattle.question_objects.specs.Conditions.{rule_item}
use Rattle.question_objects.proofs.ListingLemmas.{failing_next, first_left, none_left, passing_next}
use Rattle.question_objects.proofs.rules.put_at.Goals as goal

abbrev is_told : List Node → Node → Node → Bool
is_told ns n r = is_named ns n r.place

pub loop-rule-init : goal.loop-rule-init
loop-rule-init g c =
    let bytes = bytes_of c.args.policy in
    let ns = nodes_of bytes in
    let all = c.rules-rules.ensures ∙ ap (λ (b : List ℕ). filter is_rule (nodes_of b)) c.forms-forms.ensures in
    record {
      written = λ n told. first_left _ (rule_item c.args.package_place) (pen_of g.W.Write.contents c.args.out.now) _ _ (ap (filter (is_told ns n)) all);
      nodes = subst (AreNodesOf bytes) (sym all) (All-filter is_rule (IsNodeOf bytes) ns (all_nodes bytes c.args.policy.accepted.checked.spelled));
    }

pub put_rule-requires-clause-node : goal.put_rule-requires-clause-node
put_rule-requires-clause-node g c =
    let r = rule_node c.in-Some.rule in
    subst (λ (b : List ℕ). IsNodeOf b r) (sym c.forms-forms.ensures) (first_of (bytes_of c.args.policy) _ r _ c.in-Some.ensures.steps c.loop-rule.invariant.nodes)

pub put_rule-requires-clause-in_file : goal.put_rule-requires-clause-in_file
put_rule-requires-clause-in_file g c =
    let bytes = bytes_of c.args.policy in
    let r = rule_node c.in-Some.rule in
    let node = first_of bytes _ r _ c.in-Some.ensures.steps c.loop-rule.invariant.nodes in
    let below = place_below bytes r c.args.policy.accepted.checked (contains_found (nodes_of bytes) r.place r node) in
    omega (arith, below, c.requires)

pub loop-rule-preserved : goal.loop-rule-preserved
loop-rule-preserved g c =
    let ns = nodes_of (bytes_of c.args.policy) in
    let r = rule_node c.in-Some.rule in
    let i = c.loop-rule.invariant in
    record {
      written = λ n told.
          let known = c.has_place.ensures ∙ told c.place.result ∙ ap (is_named ns n) c.place.ensures in
          passing_next (rule_item c.args.package_place) (is_told ns n) r c.in-Some.ensures.steps (sym known ∙ c.if-not-has_place.false) (i.written n told) c.put_rule.ensures;
      nodes = rest_of (bytes_of c.args.policy) _ _ _ c.in-Some.ensures.steps i.nodes;
    }

pub loop-rule-preserved-then-not-has_place : goal.loop-rule-preserved-then-not-has_place
loop-rule-preserved-then-not-has_place g c =
    let ns = nodes_of (bytes_of c.args.policy) in
    let r = rule_node c.in-Some.rule in
    let i = c.loop-rule.invariant in
    record {
      written = λ n told.
          let known = c.has_place.ensures ∙ told c.place.result ∙ ap (is_named ns n) c.place.ensures in
          failing_next (rule_item c.args.package_place) (is_told ns n) r c.in-Some.ensures.steps (sym known ∙ c.if-not-has_place.true) (i.written n told);
      nodes = rest_of (bytes_of c.args.policy) _ _ _ c.in-Some.ensures.steps i.nodes;
    }

pub returns : goal.returns
returns g c = λ n told.
    let ns = nodes_of (bytes_of c.args.policy) in
    none_left (rule_item c.args.package_place) (ap (filter (is_told ns n)) c.in_default.ensures.steps.0) (c.loop-rule.invariant.written n told) c.put_array_end.ensures
