use Rattle.hii_commands.proofs.CommandLemmas.{one_command}
use Rattle.hii_commands.proofs.laws.one_command_is_asked.Goals as goal

pub returns : goal.returns
returns c = one_command
