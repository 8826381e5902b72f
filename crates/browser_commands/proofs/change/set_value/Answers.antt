use Rattle.std.proofs.lemmas.Result.{err_from_is_err_and}
use Rattle.hii_values.specs.code.Offers.{offer_of}
use Rattle.hii_questions.specs.code.Checks.{range_of}
use Rattle.hii_questions.specs.code.Views.{question_view}
use Rattle.browser_commands.proofs.SetLemmas.{denies_value, leaves_all, sets_value}
use Rattle.browser_commands.proofs.change.set_value.Goals as goal

pub returns-in_err-field : goal.returns-in_err-field
returns-in_err-field c =
    let p = err_from_is_err_and c.from_residual.result c.from_residual.ensures.1 in
    rw (p.1, p.2) (leaves_all c.args.policy (question_view c.args.question) (offer_of c.args.input) c.args.working.now c.in_err-field.field-0.0 c.in_err-field.ensures)

pub set-requires-clause-bytes : goal.set-requires-clause-bytes
set-requires-clause-bytes c = λ scoped. c.requires.held scoped (range_of c.in_ok-field.field) c.in_ok-field.ensures.2

pub returns-in_err-set : goal.returns-in_err-set
returns-in_err-set c =
    let p = err_from_is_err_and c.from_residual-in_err-set.result c.from_residual-in_err-set.ensures.1 in
    rw (p.1, p.2) (denies_value c.args.policy (question_view c.args.question) (offer_of c.args.input) c.args.working.now c.set.new.self c.in_ok-field.field c.in_err-set.field-0.0 c.in_ok-field.ensures c.in_err-set.ensures.0 c.in_err-set.ensures.1)

pub returns : goal.returns
returns c =
    sets_value c.args.policy (question_view c.args.question) (offer_of c.args.input) c.args.working.now c.set.new.self c.in_ok-field.field c.in_ok-field.ensures c.in_ok-set.ensures.0 c.in_ok-set.ensures.1
