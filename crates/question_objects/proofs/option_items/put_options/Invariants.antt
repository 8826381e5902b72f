use Rattle.std.proofs.Common.{length}
use Rattle.std.specs.Prelude.{is_some}
use Rattle.hii_bytes.specs.Watching.{pen_of}
use Rattle.ifr_nodes.specs.Nodes.{options}
use Rattle.ifr_nodes.specs.code.Checked.{AreNodesOf}
use Rattle.ifr_scopes.specs.code.OptionsLeft.{options_of_left}
use Rattle.hii_questions.specs.code.Views.{question_node}
use Rattle.guard_policy.specs.Policy.{fixed}
use Rattle.guard_policy.specs.code.Views.{bytes_of}
use Rattle.question_audit.specs.code.Pages.{audited}
use Rattle.question_audit.specs.code.Places.{has_place}
use Rattle.question_objects.proofs.OptionLemmas.{AreListed}
use Rattle.question_objects.proofs.option_items.put_options.Given as goal

-- the options before those that are left were written
abbrev pub invariant-loop-option : goal.invariant-loop-option
invariant-loop-option g l =
    let a = audited l.page in
    let n = question_node l.question in
    record {
      written : AreListed l.fn.detail a n.place (is_some (fixed a.world n)) (has_place l.told) (options n) (options_of_left l.options) l.is_first (pen_of g.W.Write.contents l.fn.out) (pen_of g.W.Write.contents l.out);
      nodes : AreNodesOf (bytes_of l.page.policy) (options_of_left l.options);
    }

abbrev pub decreases-loop-option : goal.decreases-loop-option
decreases-loop-option g l = length (options_of_left l.options)
