use Rattle.std.proofs.Common.{◌≡◌, ℕ, codes, length, map}
use Rattle.std.specs.Prelude.{filter}
use Rattle.hii_bytes.specs.Watching.{pen_of}
use Rattle.ifr_nodes.specs.Nodes.{nodes_of}
use Rattle.ifr_nodes.specs.code.Checked.{AreNodesOf}
use Rattle.hii_questions.specs.code.Lists.{questions_left}
use Rattle.guard_policy.specs.code.Views.{bytes_of}
use Rattle.question_audit.specs.code.Pages.{audited}
use Rattle.question_audit.specs.Dependences.{is_decided_by}
use Rattle.question_audit.specs.code.Naming.{naming}
use Rattle.question_audit.proofs.AskedLemmas.{question_nodes}
use Rattle.question_rows.specs.Dependences.{decided_item, decided_items}
use Rattle.question_rows.proofs.RunLemmas.{Runs}
use Rattle.question_rows.proofs.decided.put_decided.Given as goal

-- the questions before those that are left were written where they are decided
abbrev pub invariant-loop-other : goal.invariant-loop-other
invariant-loop-other g l =
    let a = audited l.page in
    let ns = nodes_of (bytes_of l.page.policy) in
    record {
      written : (id : ℕ) → l.flags ≡ naming ns id → Runs (codes "<p class=\"small\">decides ") (codes ", ") l.is_first (decided_items l.when a id) l.is_next_first (map (decided_item l.when a) (filter (is_decided_by l.when ns id) (questions_left l.questions)))
          (pen_of g.W.Write.contents l.fn.out) (pen_of g.W.Write.contents l.out);
      nodes : AreNodesOf (bytes_of l.page.policy) (question_nodes (questions_left l.questions));
    }

abbrev pub decreases-loop-other : goal.decreases-loop-other
decreases-loop-other g l = length (questions_left l.questions)
