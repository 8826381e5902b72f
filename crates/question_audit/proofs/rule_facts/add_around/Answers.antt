use Rattle.std.proofs.Common.{sym, ap}
use Rattle.std.specs.List.{flat_map}
use Rattle.ifr_nodes.specs.Nodes.{nodes_of}
use Rattle.ifr_scopes.specs.code.Lists.{guard_node}
use Rattle.hii_questions.specs.code.Views.{question_node}
use Rattle.guard_policy.specs.code.Views.{bytes_of}
use Rattle.guard_policy.proofs.IndexedLemmas.{of_statement}
use Rattle.question_audit.proofs.AroundLemmas.{guards_found}
use Rattle.question_audit.specs.RuleFacts.{condition_references}
use Rattle.question_audit.specs.code.Places.{has_place}
use Rattle.question_audit.proofs.NamingLemmas.{all_named, all_to_name, condition_added}
use Rattle.question_audit.proofs.rule_facts.add_around.Goals as goal

pub loop-guard-init : goal.loop-guard-init
loop-guard-init c =
    let policy = c.args.policy in
    let n = question_node c.args.question in
    let ns = nodes_of (bytes_of policy) in
    let found = guards_found policy n _ c.place.result _ c.requires.node (of_statement n c.args.question.statement.statement) (sym c.place.ensures) c.forms-forms.ensures c.guards_at-guards.ensures.guards in
    record { named = all_to_name ns (has_place c.args.places.now) _ _ (ap (flat_map (condition_references ns)) found); closed = c.requires.closed }

pub loop-guard-preserved : goal.loop-guard-preserved
loop-guard-preserved c =
    let ns = nodes_of (bytes_of c.args.policy) in
    record {
      named = condition_added ns _ _ _ _ _ _ (guard_node c.in-Some.guard) c.in-Some.ensures.steps (rw (c.forms-forms.ensures, c.condition.ensures) at c.in_ok-add_named.ensures.places) c.loop-guard.invariant.named;
      closed = rw c.forms-forms.ensures at c.in_ok-add_named.ensures.closed;
    }

pub returns-clause-places : goal.returns-clause-places
returns-clause-places c =
    let ns = nodes_of (bytes_of c.args.policy) in
    all_named ns _ _ _ _ (ap (flat_map (condition_references ns)) c.in_default.ensures.steps.0) c.loop-guard.invariant.named
