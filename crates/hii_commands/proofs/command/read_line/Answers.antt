use Rattle.std.proofs.Common.{ap, sym, ◌∙◌, arith}
use Rattle.std.specs.Option.{ok_or}
use Rattle.browser_rules.specs.Words.{BadCommand}
use Rattle.hii_commands.specs.code.Reading.{command_in}
use Rattle.hii_commands.proofs.ReadingLemmas.{short_line}
use Rattle.hii_commands.proofs.command.read_line.Goals as goal

pub returns-in-Some-clause-means : goal.returns-in-Some-clause-means
returns-in-Some-clause-means c =
    sym (short_line c.args.line.now (omega arith)) ∙ ap (λ o. ok_or o BadCommand) (ap command_in (sym c.drop_return.ensures) ∙ sym c.in-Some.ensures.command)

pub returns-in-None-clause-means : goal.returns-in-None-clause-means
returns-in-None-clause-means c =
    sym (short_line c.args.line.now (omega arith)) ∙ ap (λ o. ok_or o BadCommand) (ap command_in (sym c.drop_return.ensures) ∙ sym c.in-None.ensures.command)
