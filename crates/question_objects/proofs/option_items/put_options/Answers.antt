use Rattle.std.proofs.Common.{◌≡◌, ℕ, false, ap, rules, subst, sym, ◌∙◌}
use Rattle.std.specs.Prelude.{is_some}
use Rattle.hii_bytes.specs.Watching.{pen_of}
use Rattle.ifr_nodes.specs.Nodes.{options}
use Rattle.ifr_nodes.specs.code.Checked.{AreNodesOf}
use Rattle.ifr_scopes.specs.code.OptionsLeft.{options_of_left}
use Rattle.ifr_scopes.specs.code.Parts.{option_node}
use Rattle.hii_questions.specs.code.Views.{question_node}
use Rattle.guard_policy.specs.Policy.{fixed}
use Rattle.guard_policy.specs.code.Views.{bytes_of}
use Rattle.hii_values.proofs.OptionLemmas.{options_are_nodes}
use Rattle.guard_policy.proofs.OptionLemmas.{first_of, rest_of}
use Rattle.question_audit.specs.code.Pages.{audited}
use Rattle.question_audit.specs.code.Places.{has_place}
use Rattle.question_audit.proofs.BeginningLemmas.{at_error}
use Rattle.question_objects.proofs.OptionLemmas.{at_first, no_option_left, option_next, options_begun}
use Rattle.question_objects.proofs.option_items.put_options.Goals as goal

pub loop-option-init : goal.loop-option-init
loop-option-init g c =
    let page = c.args.page in
    let a = audited page in
    let n = question_node c.args.question in
    let bytes = bytes_of page.policy in
    let all = c.options_of-options.ensures ∙ ap options c.statement.ensures in
    let none : (p : ℕ) → has_place c.new-told.result p ≡ false = λ p. search rules in
    record {
      written = at_first c.args.detail a n.place (is_some (fixed a.world n)) (has_place c.new-told.result) (pen_of g.W.Write.contents c.args.out.now) (options n) (options_of_left c.options_of-options.result) none all;
      nodes = subst (AreNodesOf bytes) (sym all) (options_are_nodes bytes n page.policy.accepted.checked.spelled c.requires.node);
    }

pub put_item-requires-clause-node : goal.put_item-requires-clause-node
put_item-requires-clause-node g c = first_of _ _ _ _ c.in-Some.ensures.steps c.loop-option.invariant.nodes

pub loop-option-preserved : goal.loop-option-preserved
loop-option-preserved g c =
    let a = audited c.args.page in
    let n = question_node c.args.question in
    let i = c.loop-option.invariant in
    record {
      written = option_next c.args.detail a n.place (is_some (fixed a.world n)) _ (has_place c.put_item.new.told) _ _ _ _ _ _ _ (option_node c.in-Some.option) c.in-Some.ensures.steps
          (rw (c.place.ensures, c.requires.denied) at c.in_ok-put_item.ensures.told) (rw c.place.ensures at c.in_ok-put_item.ensures.places) i.written;
      nodes = rest_of _ _ _ _ c.in-Some.ensures.steps i.nodes;
    }

pub returns-in_err-put_item-clause-begun : goal.returns-in_err-put_item-clause-begun
returns-in_err-put_item-clause-begun g c =
    let a = audited c.args.page in
    let n = question_node c.args.question in
    at_error c.from_residual.result (rw c.in_err-put_item.ensures.nothing (options_begun c.args.detail a n.place (is_some (fixed a.world n)) _ _ _ _ _ _ c.loop-option.invariant.written))

pub returns-clause-told : goal.returns-clause-told
returns-clause-told g c =
    let a = audited c.args.page in
    let n = question_node c.args.question in
    no_option_left c.args.detail a n.place (is_some (fixed a.world n)) _ _ _ _ _ _ _ c.in_default.ensures.steps.0 c.loop-option.invariant.written c.put_array_end.ensures
