use Rattle.std.proofs.Common.{refl}
use Rattle.audit_options.specs.CommandLine.{option}
use Rattle.audit_options.proofs.BuildingLemmas.{with_hyphen}
use Rattle.audit_options.proofs.commands.language.Goals as goal

pub returns : goal.returns
returns c = rw (c.default_value.ensures, c.allow_hyphen_values.ensures) (with_hyphen (option c.args.row.now.name.now) c.option.result c.args.takes_hyphen _ c.option.ensures refl)
