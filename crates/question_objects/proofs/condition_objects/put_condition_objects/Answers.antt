use Rattle.std.proofs.Common.{◌≡◌, ℕ, Bool, List, arith, sym, ap, subst, ◌∙◌}
use Rattle.std.specs.Prelude.{filter}
use Rattle.std.specs.List.{flat_map}
use Rattle.hii_bytes.specs.Watching.{pen_of}
use Rattle.hii_bytes.proofs.WritingLemmas.{past_piece, writes_nil}
use Rattle.ifr_opcodes.specs.Forest.{Node}
use Rattle.ifr_opcodes.specs.Opcode.{number}
use Rattle.ifr_nodes.specs.Guards.{guards_among, is_guard}
use Rattle.ifr_nodes.specs.Nodes.{nodes_of}
use Rattle.ifr_nodes.specs.Rules.{is_rule}
use Rattle.ifr_nodes.specs.code.Checked.{AreNodesOf, IsNodeOf}
use Rattle.ifr_nodes.specs.code.Views.{node_of, nodes_left}
use Rattle.ifr_nodes.proofs.ConditionLemmas.{place_below}
use Rattle.ifr_nodes.proofs.ScopeLemmas.{all_nodes}
use Rattle.ifr_nodes.proofs.ViewLemmas.{contains_found}
use Rattle.ifr_scopes.specs.code.Lists.{guard_node, rule_node}
use Rattle.guard_policy.specs.code.Views.{bytes_of}
use Rattle.guard_policy.proofs.OptionLemmas.{first_of, rest_of}
use Rattle.condition_text.proofs.WriteLemmas.{written_as}
use Rattle.question_audit.specs.code.Pages.{audited}
use Rattle.question_audit.proofs.AroundLemmas.{same_forms}
use Rattle.question_audit.proofs.FactLemmas.{all_left}
use Rattle.question_objects.specs.FormSets.{condition_object}
use Rattle.question_objects.proofs.NodeLemmas.{guard_is_no_rule, met, of_another, of_guard, of_rule, passed_over}
use Rattle.question_objects.proofs.condition_objects.put_condition_objects.Goals as goal

pub loop-node-init : goal.loop-node-init
loop-node-init g c =
    let page = c.args.page in
    let bytes = bytes_of page.policy in
    let told : Node → List ℕ = condition_object (audited page) c.args.package_place in
    let own = same_forms c.forms-forms.result.now c.policy.result page.policy c.forms-forms.ensures c.policy.ensures in
    let all : nodes_left c.over-nodes.result ≡ nodes_of bytes = c.over-nodes.ensures.all ∙ ap (λ (b : List ℕ). nodes_of b) (c.bytes.ensures.bytes ∙ own) in
    record {
      text = all_left told (pen_of g.W.Write.contents c.args.out.now) _ _ all;
      guards = c.guards-guards.ensures.guards ∙ ap (λ (b : List ℕ). guards_among (nodes_of b)) own ∙ ap guards_among (sym all);
      rules = c.rules-rules.ensures ∙ ap (λ (b : List ℕ). filter is_rule (nodes_of b)) own ∙ ap (filter is_rule) (sym all);
      nodes = subst (AreNodesOf bytes) (sym all) (all_nodes bytes page.policy.accepted.checked.spelled);
    }

abbrev is_guard_node : Node → Bool
is_guard_node n = is_guard (number n.op)

pub put_guard_object-requires : goal.put_guard_object-requires
put_guard_object-requires g c =
    let bytes = bytes_of c.args.page.policy in
    let n = node_of c.in-Some.node in
    let i = c.loop-node.invariant in
    let e = c.in-Some.ensures.some.0 in
    let same = (met is_guard_node _ _ _ _ n (guard_node c.in-Some-next.guard) i.guards e (sym c.is_guard.ensures ∙ c.if-is_guard.true) c.in-Some-next.ensures.steps).0 in
    let place = ap (λ (m : Node). m.place) same in
    let below = place_below bytes n c.args.page.policy.accepted.checked (contains_found (nodes_of bytes) n.place n (first_of bytes _ n _ e i.nodes)) in
    omega (arith, below, place, c.requires)

pub loop-node-preserved-in-Some-next : goal.loop-node-preserved-in-Some-next
loop-node-preserved-in-Some-next g c =
    let a = audited c.args.page in
    let told : Node → List ℕ = condition_object a c.args.package_place in
    let n = node_of c.in-Some.node in
    let rest = nodes_left c.step.new.self in
    let i = c.loop-node.invariant in
    let e = c.in-Some.ensures.some.0 in
    let is = sym c.is_guard.ensures ∙ c.if-is_guard.true in
    let found = met is_guard_node _ _ _ _ n (guard_node c.in-Some-next.guard) i.guards e is c.in-Some-next.ensures.steps in
    let wrote = written_as c.put_guard_object.ensures (of_guard a c.args.package_place n _ found.0 is) in
    record {
      text = past_piece _ _ _ _ _ (told n) (flat_map told rest) (ap (flat_map told) e) i.text wrote;
      guards = found.1;
      rules = passed_over is_rule _ _ rest n i.rules e (guard_is_no_rule n is);
      nodes = rest_of (bytes_of c.args.page.policy) _ _ _ e i.nodes;
    }

pub loop-node-preserved-then-not-is_rule : goal.loop-node-preserved-then-not-is_rule
loop-node-preserved-then-not-is_rule g c =
    let a = audited c.args.page in
    let told : Node → List ℕ = condition_object a c.args.package_place in
    let n = node_of c.in-Some.node in
    let rest = nodes_left c.step.new.self in
    let i = c.loop-node.invariant in
    let e = c.in-Some.ensures.some.0 in
    let other = sym c.is_guard.ensures ∙ c.if-is_guard.false in
    let nor = sym c.is_rule.ensures ∙ c.if-not-is_rule.true in
    record {
      text = past_piece _ _ _ _ _ (told n) (flat_map told rest) (ap (flat_map told) e) i.text (written_as (writes_nil _) (of_another a c.args.package_place n other nor));
      guards = passed_over is_guard_node _ _ rest n i.guards e other;
      rules = passed_over is_rule _ _ rest n i.rules e nor;
      nodes = rest_of (bytes_of c.args.page.policy) _ _ _ e i.nodes;
    }

pub put_rule_object-requires-clause-node : goal.put_rule_object-requires-clause-node
put_rule_object-requires-clause-node g c =
    let page = c.args.page in
    let n = node_of c.in-Some.node in
    let i = c.loop-node.invariant in
    let e = c.in-Some.ensures.some.0 in
    let own = same_forms c.forms-forms.result.now c.policy.result page.policy c.forms-forms.ensures c.policy.ensures in
    let same = (met is_rule _ _ _ _ n (rule_node c.in-Some-next-2.rule) i.rules e (sym c.is_rule.ensures ∙ c.if-not-is_rule.false) c.in-Some-next-2.ensures.steps).0 in
    let node = subst (IsNodeOf (bytes_of page.policy)) (sym same) (first_of (bytes_of page.policy) _ n _ e i.nodes) in
    subst (λ (b : List ℕ). IsNodeOf b (rule_node c.in-Some-next-2.rule)) (sym own) node

pub put_rule_object-requires-clause-in_file : goal.put_rule_object-requires-clause-in_file
put_rule_object-requires-clause-in_file g c =
    let bytes = bytes_of c.args.page.policy in
    let n = node_of c.in-Some.node in
    let i = c.loop-node.invariant in
    let e = c.in-Some.ensures.some.0 in
    let same = (met is_rule _ _ _ _ n (rule_node c.in-Some-next-2.rule) i.rules e (sym c.is_rule.ensures ∙ c.if-not-is_rule.false) c.in-Some-next-2.ensures.steps).0 in
    let place = ap (λ (m : Node). m.place) same in
    let below = place_below bytes n c.args.page.policy.accepted.checked (contains_found (nodes_of bytes) n.place n (first_of bytes _ n _ e i.nodes)) in
    omega (arith, below, place, c.requires)

pub loop-node-preserved-in-Some-next-2 : goal.loop-node-preserved-in-Some-next-2
loop-node-preserved-in-Some-next-2 g c =
    let a = audited c.args.page in
    let told : Node → List ℕ = condition_object a c.args.package_place in
    let n = node_of c.in-Some.node in
    let rest = nodes_left c.step.new.self in
    let i = c.loop-node.invariant in
    let e = c.in-Some.ensures.some.0 in
    let other = sym c.is_guard.ensures ∙ c.if-is_guard.false in
    let is = sym c.is_rule.ensures ∙ c.if-not-is_rule.false in
    let found = met is_rule _ _ _ _ n (rule_node c.in-Some-next-2.rule) i.rules e is c.in-Some-next-2.ensures.steps in
    let wrote = written_as c.put_rule_object.ensures (of_rule a c.args.package_place n _ found.0 other is) in
    record {
      text = past_piece _ _ _ _ _ (told n) (flat_map told rest) (ap (flat_map told) e) i.text wrote;
      guards = passed_over is_guard_node _ _ rest n i.guards e other;
      rules = found.1;
      nodes = rest_of (bytes_of c.args.page.policy) _ _ _ e i.nodes;
    }
