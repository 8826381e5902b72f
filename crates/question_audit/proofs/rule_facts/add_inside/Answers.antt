use Rattle.std.proofs.Common.{ap, ◌∙◌}
use Rattle.std.specs.List.{flat_map}
use Rattle.ifr_nodes.specs.Nodes.{nodes_of}
use Rattle.ifr_scopes.specs.code.Lists.{guard_node}
use Rattle.guard_policy.specs.code.Views.{bytes_of}
use Rattle.question_audit.specs.RuleFacts.{condition_references, inner_guards}
use Rattle.question_audit.specs.code.Places.{has_place}
use Rattle.question_audit.proofs.NamingLemmas.{all_named, all_to_name, condition_added}
use Rattle.question_audit.proofs.rule_facts.add_inside.Goals as goal

pub loop-guard-init : goal.loop-guard-init
loop-guard-init c =
    let ns = nodes_of (bytes_of c.args.policy) in
    let all = c.guards_in-guards.ensures ∙ ap inner_guards c.statement.ensures in
    record { named = all_to_name ns (has_place c.args.places.now) _ _ (ap (flat_map (condition_references ns)) all); closed = c.requires.closed }

pub loop-guard-preserved : goal.loop-guard-preserved
loop-guard-preserved c =
    let ns = nodes_of (bytes_of c.args.policy) in
    record {
      named = condition_added ns _ _ _ _ _ _ (guard_node c.in-Some.guard) c.in-Some.ensures.steps (rw (c.forms-forms.ensures, c.condition.ensures) at c.in_ok-add_named.ensures.places) c.loop-guard.invariant.named;
      closed = rw c.forms-forms.ensures at c.in_ok-add_named.ensures.closed;
    }

pub returns-clause-places : goal.returns-clause-places
returns-clause-places c =
    let ns = nodes_of (bytes_of c.args.policy) in
    all_named ns _ _ _ _ (ap (flat_map (condition_references ns)) c.in_default.ensures.steps.0) c.loop-guard.invariant.named
