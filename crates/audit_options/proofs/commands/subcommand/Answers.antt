use Rattle.std.proofs.Common.{rules}
use Rattle.audit_options.proofs.BuildingLemmas.{all_options, option_added}
use Rattle.audit_options.proofs.commands.subcommand.Goals as goal

pub loop-option-init : goal.loop-option-init
loop-option-init c = record { read_as = search rules; local = search rules }

pub loop-option-preserved : goal.loop-option-preserved
loop-option-preserved c =
    option_added c.args.takes_hyphen c.args.row.now.name.now c.args.row.now.options.now c.loop-option.option-index _ c.loop-option.command c.arg.result c.in_ok-command.command c.loop-option.invariant (search rules)
    c.arg.ensures c.in_ok-command.ensures

pub returns : goal.returns
returns c = all_options c.args.takes_hyphen c.args.row.now.name.now c.args.row.now.options.now c.loop-option.option-index c.loop-option.command (search rules) c.loop-option.invariant
