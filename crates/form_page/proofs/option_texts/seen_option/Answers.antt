use Rattle.std.proofs.Common.{◌∙◌, refl, sym, ap, List, Some}
use Rattle.std.specs.Prelude.{◌==◌, ◌&&◌, is_none}
use Rattle.std.proofs.lemmas.Bool.{cond-true, cond-false}
use Rattle.ifr_opcodes.specs.Fields.{option_value}
use Rattle.ifr_opcodes.specs.Forest.{Node}
use Rattle.ifr_scopes.specs.code.Lists.{statement_node}
use Rattle.ifr_scopes.specs.code.OptionsLeft.{options_of_left}
use Rattle.ifr_scopes.specs.code.Parts.{option_node}
use Rattle.guard_policy.specs.Policy.{hidden}
use Rattle.guard_policy.specs.code.Views.{bytes_of}
use Rattle.form_page.specs.code.PageViews.{world_of}
use Rattle.form_page.specs.RowValues.{option_with}
use Rattle.hii_values.proofs.OptionLemmas.{options_are_nodes}
use Rattle.guard_policy.proofs.OptionLemmas.{first_of, rest_of}
use Rattle.form_page.proofs.option_texts.seen_option.Goals as goal

pub loop-option-init : goal.loop-option-init
loop-option-init g c =
    rw c.options_of-options.ensures (refl, options_are_nodes (bytes_of c.args.page.policy) (statement_node c.args.statement) c.args.page.policy.accepted.checked.spelled c.requires, c.none-last.ensures.effects _)

pub is_choice-requires-clause-last : goal.is_choice-requires-clause-last
is_choice-requires-clause-last g c = c.loop-option.invariant.2

pub is_choice-requires-clause-node : goal.is_choice-requires-clause-node
is_choice-requires-clause-node g c = first_of _ _ _ _ c.in-Some.ensures.steps c.loop-option.invariant.1

pub returns-then-is_choice : goal.returns-then-is_choice
returns-then-is_choice g c =
    let w = world_of c.args.page in
    let o = option_node c.in-Some.option in
    let value = c.args.value in
    let rest = option_with w (options_of_left c.next.new.self) value in
    let found = cond-true ((option_value o.op == value) && is_none (hidden w o)) (Some o) rest (sym c.is_choice.ensures.choice ∙ c.if-is_choice.true) in
    sym (sym c.loop-option.invariant.0 ∙ ap (λ (l : List Node). option_with w l value) c.in-Some.ensures.steps ∙ found)

pub loop-option-preserved : goal.loop-option-preserved
loop-option-preserved g c =
    let w = world_of c.args.page in
    let o = option_node c.in-Some.option in
    let value = c.args.value in
    let passed = cond-false ((option_value o.op == value) && is_none (hidden w o)) (Some o) (option_with w (options_of_left c.next.new.self) value) (sym c.is_choice.ensures.choice ∙ c.if-is_choice.false) in
    (sym passed ∙ sym (ap (λ (l : List Node). option_with w l value) c.in-Some.ensures.steps) ∙ c.loop-option.invariant.0, rest_of _ _ _ _ c.in-Some.ensures.steps c.loop-option.invariant.1, c.is_choice.ensures.last)
