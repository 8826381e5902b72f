use Rattle.std.proofs.Common.{◌<◌, length, rules, ap, sym, ◌∙◌}
use Rattle.hii_commands.proofs.FrontLemmas.{why_behind, why_by_front, why_more}
use Rattle.hii_commands.proofs.command.why_command.Goals as goal

pub returns-in_err-question-clause-command : goal.returns-in_err-question-clause-command
returns-in_err-question-clause-command c =
    rw c.from_residual.ensures (ap why_behind c.in_err-question.ensures ∙ sym (why_by_front c.args.rest.now))

pub returns-else-is_empty-clause-command : goal.returns-else-is_empty-clause-command
returns-else-is_empty-clause-command c =
    let some : 0 < length c.in_ok-question.behind.now = search rules in
    why_more c.args.rest.now c.in_ok-question.behind.now c.in_ok-question.question c.in_ok-question.ensures some
