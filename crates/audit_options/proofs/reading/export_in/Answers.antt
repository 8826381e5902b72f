use Rattle.std.proofs.Common.{codes}
use Rattle.clap.specs.Words.{found_of}
use Rattle.audit_options.proofs.ReadingLemmas.{flag_read, text_read}
use Rattle.audit_options.proofs.reading.export_in.Goals as goal

pub returns-clause-asked : goal.returns-clause-asked
returns-clause-asked c = record {
  list = c.list_in.ensures;
  stores = text_read (found_of c.args.options.now) (codes "stores") c.get_str.result _ _ c.get_str.ensures c.unwrap_or.ensures;
  part = c.in_ok-part.ensures.asked;
  json = flag_read (found_of c.args.options.now) (codes "json") _ c.get_flag.ensures.none c.get_flag.ensures.value c.get_flag.ensures.other;
}
