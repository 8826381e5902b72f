use Rattle.std.proofs.Common.{map, take}
use Rattle.audit_options.specs.CommandLine.{IsCommand, command_of}
use Rattle.audit_options.specs.code.Building.{row_rule}
use Rattle.audit_options.proofs.commands.subcommand.Given as goal

-- the command has the options so far
abbrev pub invariant-loop-option : goal.invariant-loop-option
invariant-loop-option l =
    IsCommand (command_of l.row.name.now (map (row_rule l.takes_hyphen) (take l.option-index l.option-items))) l.command
