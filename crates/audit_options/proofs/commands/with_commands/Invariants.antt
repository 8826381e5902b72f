use Rattle.std.proofs.Common.{List, ◌++◌, map, take}
use Rattle.clap.specs.Words.{Shape}
use Rattle.audit_options.specs.CommandLine.{IsProgram}
use Rattle.audit_options.specs.code.Building.{row_shape, with_commands}
use Rattle.audit_options.proofs.commands.with_commands.Given as goal

-- the program has the commands so far
abbrev pub invariant-loop-row : goal.invariant-loop-row
invariant-loop-row l = (others : List Shape) → IsProgram (with_commands others) l.fn.command
    → IsProgram (with_commands (others ++ map (row_shape l.takes_hyphen) (take l.row-index l.rows))) l.command
