use Rattle.std.proofs.Common.{length}
use Rattle.std.specs.List.{flat_map}
use Rattle.ifr_nodes.specs.Nodes.{nodes_of}
use Rattle.ifr_scopes.specs.code.ConditionsInLeft.{conditions_in_left}
use Rattle.hii_questions.specs.code.Views.{question_node}
use Rattle.guard_policy.specs.code.Views.{bytes_of}
use Rattle.question_audit.specs.ConditionFacts.{checks}
use Rattle.question_audit.specs.RuleFacts.{condition_references}
use Rattle.question_audit.specs.code.NamedRules.{IsClosed}
use Rattle.question_audit.specs.code.Places.{has_place}
use Rattle.question_audit.proofs.NamingLemmas.{IsNamedSoFar}
use Rattle.question_audit.proofs.rule_facts.add_checked.Given as goal

-- the rules that the checks name that are left are left to be added
abbrev pub invariant-loop-check : goal.invariant-loop-check
invariant-loop-check l =
    let ns = nodes_of (bytes_of l.policy) in
    record {
      named : IsNamedSoFar ns (has_place l.fn.places) (has_place l.places) (flat_map (condition_references ns) (checks (question_node l.question))) (flat_map (condition_references ns) (conditions_in_left l.checks));
      closed : IsClosed ns (has_place l.places);
    }

abbrev pub decreases-loop-check : goal.decreases-loop-check
decreases-loop-check l = length (conditions_in_left l.checks)
