use Rattle.std.proofs.Common.{◌≡◌, ℕ, false, length}
use Rattle.std.specs.Prelude.{◌||◌, filter}
use Rattle.std.specs.List.{flat_map}
use Rattle.ifr_opcodes.specs.Rows.{is_among}
use Rattle.ifr_nodes.specs.Guards.{guards}
use Rattle.ifr_nodes.specs.Nodes.{nodes_of}
use Rattle.ifr_scopes.specs.code.Lists.{guards_left, statement_node}
use Rattle.guard_policy.specs.code.Views.{bytes_of}
use Rattle.question_audit.specs.RuleFacts.{condition_references}
use Rattle.question_audit.specs.Times.{counts_when}
use Rattle.question_audit.specs.code.Ids.{AreIds, has_id}
use Rattle.question_audit.specs.code.NamedRules.{IsClosed, condition_own_ids}
use Rattle.question_audit.specs.code.Places.{has_place}
use Rattle.question_audit.proofs.NamingLemmas.{IsNamedSoFar}
use Rattle.question_audit.proofs.depends_facts.support_of.Given as goal

-- the ids of each guard that counts are added or left to be added, and so are the rules that it names
abbrev pub invariant-loop-guard : goal.invariant-loop-guard
invariant-loop-guard l =
    let ns = nodes_of (bytes_of l.policy) in
    let all = filter (counts_when l.when) (guards (statement_node l.statement)) in
    let left = filter (counts_when l.when) (guards_left l.guards) in
    record {
      named : (id : ℕ) → (has_id l.ids id || is_among id (flat_map condition_own_ids left)) ≡ is_among id (flat_map condition_own_ids all);
      are : AreIds l.ids;
      rules : IsNamedSoFar ns (λ _. false) (has_place l.places) (flat_map (condition_references ns) all) (flat_map (condition_references ns) left);
      closed : IsClosed ns (has_place l.places);
    }

abbrev pub decreases-loop-guard : goal.decreases-loop-guard
decreases-loop-guard l = length (guards_left l.guards)
