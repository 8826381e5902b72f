use Rattle.std.proofs.Common.{codes}
use Rattle.clap.specs.Words.{found_of}
use Rattle.audit_options.proofs.ReadingLemmas.{flag_read, text_read}
use Rattle.audit_options.proofs.reading.form_set_in.Goals as goal

pub returns : goal.returns
returns c = record {
  list = c.list_in.ensures;
  stores = text_read (found_of c.args.options.now) (codes "stores") c.get_str.result _ _ c.get_str.ensures c.unwrap_or.ensures;
  json = flag_read (found_of c.args.options.now) (codes "json") _ c.get_flag.ensures.none c.get_flag.ensures.value c.get_flag.ensures.other;
  lang = text_read (found_of c.args.options.now) (codes "lang") c.get_str-2.result _ _ c.get_str-2.ensures c.unwrap_or-2.ensures;
}
