use Rattle.std.proofs.Common.{codes, ◌∙◌}
use Rattle.clap.specs.Words.{found_of}
use Rattle.clap.proofs.WalkLemmas.{first_value-rows}
use Rattle.audit_options.proofs.ReadingLemmas.{flag_read}
use Rattle.audit_options.proofs.reading.sources_in.Goals as goal

pub returns-clause-asked : goal.returns-clause-asked
returns-clause-asked c = record {
  efivars = c.get_str.ensures ∙ first_value-rows (found_of c.args.options.now) (codes "efivars");
  config = c.get_str-2.ensures ∙ first_value-rows (found_of c.args.options.now) (codes "config");
  zero = flag_read (found_of c.args.options.now) (codes "zero") _ c.get_flag.ensures.none c.get_flag.ensures.value c.get_flag.ensures.other;
}
