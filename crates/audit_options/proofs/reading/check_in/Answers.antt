use Rattle.std.proofs.Common.{codes}
use Rattle.clap.specs.Words.{found_of}
use Rattle.audit_options.proofs.ReadingLemmas.{flag_read, given_read, text_read}
use Rattle.audit_options.proofs.reading.check_in.Goals as goal

pub returns : goal.returns
returns c = record {
  path = text_read (found_of c.args.options.now) (codes "list") c.get_str.result _ _ c.get_str.ensures c.unwrap_or.ensures;
  take = given_read 64 (found_of c.args.options.now) (codes "take") c.get_one.result c.get_one.ensures.none c.get_one.ensures.value;
  json = flag_read (found_of c.args.options.now) (codes "json") _ c.get_flag.ensures.none c.get_flag.ensures.value c.get_flag.ensures.other;
}
