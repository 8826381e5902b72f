use Rattle.std.proofs.Common.{length}
use Rattle.std.specs.List.{flat_map}
use Rattle.ifr_nodes.specs.Nodes.{nodes_of}
use Rattle.ifr_scopes.specs.code.GuardsInLeft.{guards_in_left}
use Rattle.hii_questions.specs.code.Views.{question_node}
use Rattle.guard_policy.specs.code.Views.{bytes_of}
use Rattle.question_audit.specs.RuleFacts.{condition_references, inner_guards}
use Rattle.question_audit.specs.code.NamedRules.{IsClosed}
use Rattle.question_audit.specs.code.Places.{has_place}
use Rattle.question_audit.proofs.NamingLemmas.{IsNamedSoFar}
use Rattle.question_audit.proofs.rule_facts.add_inside.Given as goal

-- the rules that the guards name that are left are left to be added
abbrev pub invariant-loop-guard : goal.invariant-loop-guard
invariant-loop-guard l =
    let ns = nodes_of (bytes_of l.policy) in
    record {
      named : IsNamedSoFar ns (has_place l.fn.places) (has_place l.places) (flat_map (condition_references ns) (inner_guards (question_node l.question))) (flat_map (condition_references ns) (guards_in_left l.guards));
      closed : IsClosed ns (has_place l.places);
    }

abbrev pub decreases-loop-guard : goal.decreases-loop-guard
decreases-loop-guard l = length (guards_in_left l.guards)
