use Rattle.std.proofs.Common.{true, codes, length, map}
use Rattle.hii_bytes.specs.Watching.{pen_of}
use Rattle.ifr_nodes.specs.Nodes.{options}
use Rattle.ifr_nodes.specs.code.Checked.{AreNodesOf}
use Rattle.ifr_scopes.specs.code.OptionsLeft.{options_of_left}
use Rattle.hii_questions.specs.code.Views.{question_node}
use Rattle.guard_policy.specs.code.Views.{bytes_of}
use Rattle.question_audit.specs.code.Pages.{audited}
use Rattle.question_rows.specs.Options.{option_item}
use Rattle.question_rows.proofs.RunLemmas.{Runs}
use Rattle.question_rows.proofs.options.put_options.Given as goal

-- the options before those that are left were written
abbrev pub invariant-loop-option : goal.invariant-loop-option
invariant-loop-option g l =
    let a = audited l.page in
    let n = question_node l.question in
    record {
      written : Runs (codes "<div class=\"small dim\">") (codes "<br>") true (map (option_item a n.place) (options n)) l.is_first (map (option_item a n.place) (options_of_left l.options))
          (pen_of g.W.Write.contents l.fn.out) (pen_of g.W.Write.contents l.out);
      nodes : AreNodesOf (bytes_of l.page.policy) (options_of_left l.options);
    }

abbrev pub decreases-loop-option : goal.decreases-loop-option
decreases-loop-option g l = length (options_of_left l.options)
