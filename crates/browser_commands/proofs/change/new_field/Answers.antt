use Rattle.std.proofs.Common.{ap, sym}
use Rattle.std.proofs.lemmas.Result.{err_from_is_err_and}
use Rattle.hii_values.specs.code.Offers.{offer_of}
use Rattle.hii_questions.specs.code.Views.{question_node, question_view}
use Rattle.guard_policy.specs.Policy.{first_closed}
use Rattle.guard_policy.specs.code.Answers.{unless}
use Rattle.guard_policy.specs.code.Views.{world}
use Rattle.browser_commands.proofs.SetLemmas.{takes_field, takes_closed, takes_nothing}
use Rattle.browser_commands.proofs.change.new_field.Goals as goal

pub returns-in_err-field : goal.returns-in_err-field
returns-in_err-field c =
    let denied_value = c.in_err-field.field-0.0 in
    let p = err_from_is_err_and c.from_residual.result c.from_residual.ensures.1 in
    rw (p.1, p.2) (takes_nothing c.args.policy c.args.working.now.stores (question_view c.args.question) (offer_of c.args.input) denied_value.kind denied_value.place c.requires.free.question c.in_err-field.ensures.given.0 c.in_err-field.ensures.given.1)

pub returns-in_err-options_open : goal.returns-in_err-options_open
returns-in_err-options_open c =
    let p = err_from_is_err_and c.from_residual-in_err-options_open.result c.from_residual-in_err-options_open.ensures.1 in
    rw (p.1, p.2) (takes_closed c.args.policy c.args.working.now.stores (question_view c.args.question) (offer_of c.args.input) c.in_ok-field.field c.in_err-options_open.field-0.0 c.requires.free.browsed.browsable c.requires.free.browsed.laid c.requires.free.question c.in_ok-field.ensures.given c.in_ok-field.ensures.items
    (sym c.in_err-options_open.ensures))

pub returns : goal.returns
returns c =
    takes_field c.args.policy c.args.working.now.stores (question_view c.args.question) (offer_of c.args.input) c.in_ok-field.field c.requires.free.browsed.browsable c.requires.free.browsed.laid c.requires.free.question c.in_ok-field.ensures.given c.in_ok-field.ensures.items
    (sym c.in_ok-options_open.ensures)

pub returns-then-not-names_options : goal.returns-then-not-names_options
returns-then-not-names_options c =
    takes_field c.args.policy c.args.working.now.stores (question_view c.args.question) (offer_of c.args.input) c.in_ok-field.field c.requires.free.browsed.browsable c.requires.free.browsed.laid c.requires.free.question c.in_ok-field.ensures.given c.in_ok-field.ensures.items
    (ap (λ items. unless (first_closed (world c.args.policy c.args.working.now.stores) (question_node c.args.question) items)) (c.names_options.ensures.none c.if-not-names_options.true))
