use Rattle.std.proofs.Common.{append-nil, rules}
use Rattle.audit_options.proofs.BuildingLemmas.{all_rows, row_added}
use Rattle.audit_options.proofs.commands.with_commands.Goals as goal

pub loop-row-init : goal.loop-row-init
loop-row-init c = λ others is. rw (append-nil others) is

pub loop-row-preserved : goal.loop-row-preserved
loop-row-preserved c = λ others is.
    row_added c.args.takes_hyphen others c.args.rows.now c.loop-row.row-index _ c.loop-row.command c.in_ok-subcommand.field-0 c.in_ok-command.command (c.loop-row.invariant others is) (search rules)
    c.in_ok-subcommand.ensures c.in_ok-command.ensures

pub returns : goal.returns
returns c = λ others is.
    let all = all_rows c.args.takes_hyphen others c.args.rows.now c.loop-row.row-index c.loop-row.command (search rules) (c.loop-row.invariant others is) in
    all
