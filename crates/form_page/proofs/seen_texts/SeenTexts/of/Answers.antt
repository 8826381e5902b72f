use Rattle.std.proofs.Common.{sym, ap, subst, ◌∙◌, List}
use Rattle.std.specs.Prelude.{is_some}
use Rattle.std.specs.Option.{option_or}
use Rattle.ifr_opcodes.specs.Forest.{Node}
use Rattle.ifr_nodes.specs.Nodes.{options}
use Rattle.ifr_scopes.specs.code.Lists.{statement_node}
use Rattle.ifr_scopes.specs.code.OptionsLeft.{options_of_left}
use Rattle.ifr_scopes.specs.code.Parts.{option_node}
use Rattle.guard_policy.specs.code.Views.{bytes_of}
use Rattle.hii_values.proofs.OptionLemmas.{options_are_nodes}
use Rattle.guard_policy.proofs.OptionLemmas.{first_of, rest_of}
use Rattle.form_page.specs.code.PageViews.{world_of}
use Rattle.form_page.specs.code.SeenTexts.{AreFound, seen_text, text_among}
use Rattle.form_page.specs.declared.seen_texts.SeenText.{SeenText}
use Rattle.form_page.proofs.SeenLemmas.{all_found}
use Rattle.form_page.proofs.seen_texts.SeenTexts.of.Goals as goal

pub loop-option-init : goal.loop-option-init
loop-option-init g c =
    rw c.options_of-options.ensures (
      λ v whole is. record {
        met = c.of.ensures.none v ∙ sym (ap (λ (ts : List SeenText). is_some (text_among ts v)) c.new.ensures);
        told = ap (λ (ts : List SeenText). option_or (text_among ts v) (seen_text (world_of c.args.page) (options (statement_node c.args.statement)) v)) c.new.ensures;
      },
      options_are_nodes (bytes_of c.args.page.policy) (statement_node c.args.statement) c.args.page.policy.accepted.checked.spelled c.requires,
      c.none-last.ensures.effects _,
    )

pub add-requires-clause-node : goal.add-requires-clause-node
add-requires-clause-node g c = first_of _ _ _ _ c.in-Some.ensures.steps c.loop-option.invariant.1

pub add-requires-clause-last : goal.add-requires-clause-last
add-requires-clause-last g c = c.loop-option.invariant.2

pub loop-option-preserved : goal.loop-option-preserved
loop-option-preserved g c =
    let w = world_of c.args.page in
    let all = options (statement_node c.args.statement) in
    let o = option_node c.in-Some.option in
    let rest = options_of_left c.next.new.self in (
      c.add.ensures.found all rest (subst (λ (l : List Node). AreFound w all l c.loop-option.seen) c.in-Some.ensures.steps c.loop-option.invariant.0),
      rest_of _ _ _ _ c.in-Some.ensures.steps c.loop-option.invariant.1,
      c.add.ensures.last,
    )

pub returns : goal.returns
returns g c =
    let w = world_of c.args.page in
    let all = options (statement_node c.args.statement) in
    all_found w all c.loop-option.seen (subst (λ (l : List Node). AreFound w all l c.loop-option.seen) c.in_default.ensures.steps.0 c.loop-option.invariant.0)
