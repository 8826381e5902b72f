use Rattle.std.proofs.Common.{Some, ap}
use Rattle.clap.specs.Words.{Rule}
use Rattle.clap.specs.declared.builder.ArgAction.TheVariants.{Set}
use Rattle.audit_options.proofs.commands.option.Goals as goal

pub returns : goal.returns
returns c = rw (c.action.ensures, c.help.ensures, c.value_name.ensures, c.long.ensures) record {
  read_by = ap (λ (r : Rule). record r { long = Some c.args.name.now; action = Some Set; value_names = 1 }) c.new.ensures.rule;
  local = c.new.ensures.optional.1;
}
