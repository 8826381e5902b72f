use Rattle.std.proofs.Common.{◌≡◌, ℕ, length}
use Rattle.std.specs.Prelude.{filter}
use Rattle.std.specs.List.{flat_map}
use Rattle.hii_bytes.specs.Watching.{pen_of}
use Rattle.hii_bytes.specs.code.Writing.{Stands}
use Rattle.ifr_nodes.specs.Nodes.{nodes_of}
use Rattle.ifr_nodes.specs.code.Checked.{AreNodesOf}
use Rattle.hii_questions.specs.code.Lists.{questions_left}
use Rattle.guard_policy.specs.code.Views.{bytes_of}
use Rattle.question_audit.specs.code.Pages.{audited}
use Rattle.question_audit.specs.Dependences.{decided_by, decides_fact, is_decided_by}
use Rattle.question_audit.specs.code.Naming.{naming}
use Rattle.question_audit.proofs.AskedLemmas.{question_nodes}
use Rattle.question_audit.proofs.decides_facts.put_decided_when.Given as goal

-- the questions before those that are left were written where they are decided
abbrev pub invariant-loop-other : goal.invariant-loop-other
invariant-loop-other g l =
    let fact = decides_fact l.when (audited l.page) in
    let ns = nodes_of (bytes_of l.page.policy) in
    record {
      written : (id : ℕ) → l.flags ≡ naming ns id → Stands (pen_of g.W.Write.contents l.fn.out) (pen_of g.W.Write.contents l.out) (flat_map fact (decided_by l.when ns id))
          (flat_map fact (filter (is_decided_by l.when ns id) (questions_left l.questions)));
      nodes : AreNodesOf (bytes_of l.page.policy) (question_nodes (questions_left l.questions));
    }

abbrev pub decreases-loop-other : goal.decreases-loop-other
decreases-loop-other g l = length (questions_left l.questions)
