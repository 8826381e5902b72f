use Rattle.std.proofs.Common.{[]}
use Rattle.audit_options.proofs.commands.with_list_commands.Goals as goal

pub returns : goal.returns
returns c = rw c.as_slice.ensures at (c.with_commands.ensures [] c.requires)
