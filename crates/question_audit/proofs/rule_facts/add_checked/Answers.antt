use Rattle.std.proofs.Common.{ap, ◌∙◌}
use Rattle.std.specs.List.{flat_map}
use Rattle.ifr_nodes.specs.Nodes.{nodes_of}
use Rattle.ifr_scopes.specs.code.Parts.{condition_node}
use Rattle.guard_policy.specs.code.Views.{bytes_of}
use Rattle.question_audit.specs.ConditionFacts.{checks}
use Rattle.question_audit.specs.RuleFacts.{condition_references}
use Rattle.question_audit.specs.code.Places.{has_place}
use Rattle.question_audit.proofs.NamingLemmas.{all_named, all_to_name, condition_added}
use Rattle.question_audit.proofs.rule_facts.add_checked.Goals as goal

pub loop-check-init : goal.loop-check-init
loop-check-init c =
    let ns = nodes_of (bytes_of c.args.policy) in
    let all = c.conditions_in-checks.ensures ∙ ap checks c.statement.ensures in
    record { named = all_to_name ns (has_place c.args.places.now) _ _ (ap (flat_map (condition_references ns)) all); closed = c.requires.closed }

pub loop-check-preserved : goal.loop-check-preserved
loop-check-preserved c =
    let ns = nodes_of (bytes_of c.args.policy) in
    record {
      named = condition_added ns _ _ _ _ _ _ (condition_node c.in-Some.check) c.in-Some.ensures.steps (rw (c.forms-forms.ensures, c.condition.ensures) at c.in_ok-add_named.ensures.places) c.loop-check.invariant.named;
      closed = rw c.forms-forms.ensures at c.in_ok-add_named.ensures.closed;
    }

pub returns-clause-places : goal.returns-clause-places
returns-clause-places c =
    let ns = nodes_of (bytes_of c.args.policy) in
    all_named ns _ _ _ _ (ap (flat_map (condition_references ns)) c.in_default.ensures.steps.0) c.loop-check.invariant.named
