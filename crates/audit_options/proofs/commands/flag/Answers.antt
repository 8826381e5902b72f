use Rattle.std.proofs.Common.{rules}
use Rattle.audit_options.proofs.commands.flag.Goals as goal

pub returns : goal.returns
returns c = record { read_by = search rules; local = rw (c.action.ensures, c.help.ensures, c.long.ensures) c.new.ensures.optional.1 }
