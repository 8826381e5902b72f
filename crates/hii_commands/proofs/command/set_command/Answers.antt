use Rattle.std.proofs.Common.{Some, ap, rules, sym, ◌∙◌}
use Rattle.std.proofs.lemmas.Int.{to_z-of_z}
use Rattle.hii_commands.specs.code.Reading.{value_in}
use Rattle.hii_commands.proofs.FrontLemmas.{set_behind, set_by_front, set_spaced, set_unspaced}
use Rattle.hii_commands.proofs.command.set_command.Goals as goal
use mir.Syntax.{w128}
use mir.Val.{SFits}

pub returns-in_err-question-clause-command : goal.returns-in_err-question-clause-command
returns-in_err-question-clause-command c =
    rw c.from_residual.ensures (ap set_behind c.in_err-question.ensures ∙ sym (set_by_front c.args.rest.now))

pub returns-in_err-strip_prefix-clause-command : goal.returns-in_err-strip_prefix-clause-command
returns-in_err-strip_prefix-clause-command c =
    rw c.from_residual-in_err-strip_prefix.ensures
    (set_unspaced c.args.rest.now c.in_ok-question.behind.now c.in_ok-question.question c.in_ok-question.ensures c.in_err-strip_prefix.ensures.cases)

pub returns-in_err-value-clause-command : goal.returns-in_err-value-clause-command
returns-in_err-value-clause-command c =
    let spaced = c.in_ok-strip_prefix.ensures.cases in
    rw c.from_residual-in_err-value.ensures
    (set_spaced c.args.rest.now c.in_ok-question.behind.now c.in_ok-question.question _ c.in_ok-question.ensures spaced.0 (c.in_err-value.ensures ∙ ap value_in spaced.1))

pub returns-clause-command : goal.returns-clause-command
returns-clause-command c =
    let spaced = c.in_ok-strip_prefix.ensures.cases in
    let fits : SFits w128 c.in_ok-value.value = search rules in
    simp to_z-of_z
    (set_spaced c.args.rest.now c.in_ok-question.behind.now c.in_ok-question.question (Some c.in_ok-value.value) c.in_ok-question.ensures spaced.0 (c.in_ok-value.ensures ∙ ap value_in spaced.1))
