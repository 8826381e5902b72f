use Rattle.std.proofs.Common.{◌≡◌, ℕ, length}
use Rattle.std.specs.List.{list_any}
use Rattle.ifr_nodes.specs.Nodes.{nodes_of}
use Rattle.ifr_scopes.specs.code.Lists.{guards_left}
use Rattle.hii_questions.specs.code.Views.{question_view}
use Rattle.guard_policy.specs.code.Views.{bytes_of}
use Rattle.question_audit.specs.Dependences.{is_decided_by}
use Rattle.question_audit.specs.code.Naming.{counts, naming}
use Rattle.question_audit.proofs.decides_facts.is_decided.Given as goal

-- no guard that was met counts
abbrev pub invariant-loop-guard : goal.invariant-loop-guard
invariant-loop-guard l =
    let ns = nodes_of (bytes_of l.policy) in
    record {
      any : (id : ℕ) → l.flags ≡ naming ns id → list_any (counts l.when ns id) (guards_left l.guards) ≡ is_decided_by l.when ns id (question_view l.question);
      same : l.guards.ifr.now ≡ bytes_of l.policy;
    }

abbrev pub decreases-loop-guard : goal.decreases-loop-guard
decreases-loop-guard l = length (guards_left l.guards)
