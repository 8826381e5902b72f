use Rattle.audit_options.specs.CommandLine.{list_commands}
use Rattle.audit_options.proofs.commands.with_form_set_commands.Goals as goal

pub returns : goal.returns
returns c = rw c.as_slice.ensures at (c.with_commands.ensures (list_commands c.args.takes_hyphen) c.requires)
