use Rattle.std.proofs.Common.{◌∙◌}
use Rattle.hii_commands.proofs.FrontLemmas.{set_text}
use Rattle.hii_commands.proofs.command.command_in.Goals as goal

pub returns-in-Some-clause-command : goal.returns-in-Some-clause-command
returns-in-Some-clause-command c =
    c.set_command.ensures.command ∙ set_text c.args.text.now c.in-Some.rest.now c.in-Some.ensures.cases.0 c.in-Some.ensures.cases.1
