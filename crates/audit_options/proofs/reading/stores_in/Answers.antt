use Rattle.std.proofs.Common.{codes}
use Rattle.clap.specs.Words.{found_of}
use Rattle.audit_options.proofs.ReadingLemmas.{flag_read}
use Rattle.audit_options.proofs.reading.stores_in.Goals as goal

pub returns : goal.returns
returns c = record {
  list = c.list_in.ensures;
  headers = flag_read (found_of c.args.options.now) (codes "headers") _ c.get_flag.ensures.none c.get_flag.ensures.value c.get_flag.ensures.other;
  json = flag_read (found_of c.args.options.now) (codes "json") _ c.get_flag-2.ensures.none c.get_flag-2.ensures.value c.get_flag-2.ensures.other;
}
