use Rattle.std.proofs.Common.{◌≡◌, ℕ, length, map}
use Rattle.std.specs.Prelude.{filter}
use Rattle.hii_bytes.specs.Watching.{pen_of}
use Rattle.ifr_nodes.specs.Nodes.{nodes_of}
use Rattle.ifr_nodes.specs.code.Checked.{AreNodesOf}
use Rattle.hii_questions.specs.code.Lists.{questions_left}
use Rattle.guard_policy.specs.code.Views.{bytes_of}
use Rattle.audit_json.proofs.ArrayLemmas.{Lists}
use Rattle.question_audit.specs.Dependences.{decided_by, is_decided_by}
use Rattle.question_audit.specs.code.Naming.{naming}
use Rattle.question_audit.proofs.AskedLemmas.{question_nodes}
use Rattle.question_objects.specs.Dependences.{decides_key, id_of}
use Rattle.question_objects.proofs.decided.put_decided.Given as goal

-- the questions before those that are left were written where they are decided
abbrev pub invariant-loop-other : goal.invariant-loop-other
invariant-loop-other g l =
    let ns = nodes_of (bytes_of l.fn.page.policy) in
    record {
      written : (id : ℕ) → l.flags ≡ naming ns id → Lists (decides_key l.when) (map id_of (decided_by l.when ns id)) (map id_of (filter (is_decided_by l.when ns id) (questions_left l.questions))) l.is_first
          (pen_of g.W.Write.contents l.fn.out) (pen_of g.W.Write.contents l.out);
      nodes : AreNodesOf (bytes_of l.fn.page.policy) (question_nodes (questions_left l.questions));
    }

abbrev pub decreases-loop-other : goal.decreases-loop-other
decreases-loop-other g l = length (questions_left l.questions)
