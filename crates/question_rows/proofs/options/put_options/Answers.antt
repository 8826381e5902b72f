use Rattle.std.proofs.Common.{true, codes, ap, subst, sym, ◌∙◌}
use Rattle.hii_bytes.specs.Watching.{pen_of}
use Rattle.hii_bytes.proofs.WritingLemmas.{◌⨾◌}
use Rattle.ifr_nodes.specs.Nodes.{options}
use Rattle.ifr_nodes.specs.code.Checked.{AreNodesOf}
use Rattle.ifr_scopes.specs.code.OptionsLeft.{options_of_left}
use Rattle.ifr_scopes.specs.code.Parts.{option_node}
use Rattle.hii_questions.specs.code.Views.{question_node}
use Rattle.guard_policy.specs.code.Views.{bytes_of}
use Rattle.hii_values.proofs.OptionLemmas.{options_are_nodes}
use Rattle.guard_policy.proofs.OptionLemmas.{first_of, rest_of}
use Rattle.question_audit.specs.code.Pages.{audited}
use Rattle.question_rows.specs.Options.{option_item}
use Rattle.question_rows.proofs.RunLemmas.{runs_end, runs_first, runs_next, runs_start}
use Rattle.question_rows.proofs.options.put_options.Goals as goal

pub loop-option-init : goal.loop-option-init
loop-option-init g c =
    let page = c.args.page in
    let n = question_node c.args.question in
    let bytes = bytes_of page.policy in
    let all = c.options_of-options.ensures ∙ ap options c.statement.ensures in
    record {
      written = runs_start (codes "<div class=\"small dim\">") (codes "<br>") true (option_item (audited page) n.place) (pen_of g.W.Write.contents c.args.out.now) (options n) (options_of_left c.options_of-options.result) all;
      nodes = subst (AreNodesOf bytes) (sym all) (options_are_nodes bytes n page.policy.accepted.checked.spelled c.requires.node);
    }

pub put_option-requires-clause-node : goal.put_option-requires-clause-node
put_option-requires-clause-node g c = first_of _ _ _ _ c.in-Some.ensures.steps c.loop-option.invariant.nodes

pub loop-option-preserved : goal.loop-option-preserved
loop-option-preserved g c =
    let n = question_node c.args.question in
    let i = c.loop-option.invariant in
    record {
      written = runs_next (option_item (audited c.args.page) n.place) (option_node c.in-Some.option) c.in-Some.ensures.steps i.written c.put_before_item.ensures (rw c.place-place.ensures at c.put_option.ensures);
      nodes = rest_of _ _ _ _ c.in-Some.ensures.steps i.nodes;
    }

pub returns : goal.returns
returns g c =
    let item = option_item (audited c.args.page) (question_node c.args.question).place in
    let i = c.loop-option.invariant in
    runs_end item c.in_default.ensures.steps.0 i.written ⨾ rw (runs_first item c.in_default.ensures.steps.0 i.written) at c.put_end.ensures
