use Rattle.std.proofs.Common.{◌≡◌, ℕ, false, [], ap, rules, subst, sym, ◌∙◌}
use Rattle.std.specs.Prelude.{is_some}
use Rattle.hii_bytes.specs.Watching.{pen_of}
use Rattle.ifr_nodes.specs.Nodes.{options}
use Rattle.ifr_nodes.specs.code.Checked.{AreNodesOf}
use Rattle.ifr_scopes.specs.code.OptionsLeft.{options_of_left}
use Rattle.ifr_scopes.specs.code.Parts.{option_node}
use Rattle.hii_questions.specs.code.Views.{question_node}
use Rattle.guard_policy.specs.Policy.{fixed}
use Rattle.guard_policy.specs.code.Views.{bytes_of}
use Rattle.hii_values.proofs.OptionLemmas.{options_are_nodes}
use Rattle.guard_policy.proofs.OptionLemmas.{first_of, rest_of}
use Rattle.question_audit.specs.code.Pages.{audited}
use Rattle.question_audit.specs.OptionFacts.{option_facts, option_facts_behind}
use Rattle.question_audit.specs.code.Places.{has_place}
use Rattle.question_audit.proofs.BeginningLemmas.{at_error}
use Rattle.question_audit.proofs.OptionLemmas.{at_first, nothing_begun, option_begun, past_option}
use Rattle.question_audit.proofs.option_facts.put_options.Goals as goal

pub returns-in_err-locks-clause-begun : goal.returns-in_err-locks-clause-begun
returns-in_err-locks-clause-begun g c = at_error c.from_residual.result (nothing_begun _ _)

pub loop-option-init : goal.loop-option-init
loop-option-init g c =
    let page = c.args.page in
    let a = audited page in
    let n = question_node c.args.question in
    let bytes = bytes_of page.policy in
    let is_denied = is_some (fixed a.world n) in
    let all = c.options_of-options.ensures ∙ ap options c.statement.ensures in
    let none : (p : ℕ) → has_place c.new-told.result p ≡ false = λ p. search rules in
    record {
      written = at_first a n.place is_denied (has_place c.new-told.result) (pen_of g.W.Write.contents c.args.out.now) (option_facts a n) (options_of_left c.options_of-options.result) none (ap (option_facts_behind a n.place is_denied []) all);
      nodes = subst (AreNodesOf bytes) (sym all) (options_are_nodes bytes n page.policy.accepted.checked.spelled c.requires.node);
    }

pub put_option-requires-clause-node : goal.put_option-requires-clause-node
put_option-requires-clause-node g c = first_of _ _ _ _ c.in-Some.ensures.steps c.loop-option.invariant.nodes

pub loop-option-preserved : goal.loop-option-preserved
loop-option-preserved g c =
    let a = audited c.args.page in
    let n = question_node c.args.question in
    let i = c.loop-option.invariant in
    record {
      written =
          past_option a n.place (is_some (fixed a.world n)) _ (has_place c.put_option.new.told) _ _ _ _ _ _ (option_node c.in-Some.option) c.in-Some.ensures.steps
          (rw (c.place.ensures, c.is_denied.ensures) at c.in_ok-put_option.ensures.told) (rw c.place.ensures at c.in_ok-put_option.ensures.places) i.written;
      nodes = rest_of _ _ _ _ c.in-Some.ensures.steps i.nodes;
    }

pub returns-in_err-put_option-clause-begun : goal.returns-in_err-put_option-clause-begun
returns-in_err-put_option-clause-begun g c =
    let a = audited c.args.page in
    let n = question_node c.args.question in
    at_error c.from_residual-in_err-put_option.result
    (option_begun a n.place (is_some (fixed a.world n)) _ _ _ _ _ _ _ (option_node c.in-Some.option) c.in-Some.ensures.steps (rw (c.place.ensures, c.is_denied.ensures) at c.in_err-put_option.ensures.begun) c.loop-option.invariant.written)
