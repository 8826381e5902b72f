use Rattle.std.proofs.Common.{[], codes, subst, sym, unwrap_or}
use Rattle.clap.specs.Words.{all_of, found_of, rows_of}
use Rattle.audit_options.specs.Asked.{AreStoreFiles}
use Rattle.audit_options.proofs.ReadingLemmas.{flag_read, given_read, text_read}
use Rattle.audit_options.proofs.reading.image_in.Goals as goal

pub returns-clause-asked : goal.returns-clause-asked
returns-clause-asked c = record {
  list = c.list_in.ensures;
  out = text_read (found_of c.args.options.now) (codes "out") c.get_str.result _ _ c.get_str.ensures c.unwrap_or.ensures;
  files = subst (AreStoreFiles (unwrap_or (all_of (codes "store") (rows_of (found_of c.args.options.now))) [])) (sym c.sources_in.ensures.files) (rw c.in-Some.is at c.in_ok-files.ensures);
  sources = c.sources_in.ensures.asked;
  defaults = given_read 16 (found_of c.args.options.now) (codes "defaults") c.get_one.result c.get_one.ensures.none c.get_one.ensures.value;
  json = flag_read (found_of c.args.options.now) (codes "json") _ c.get_flag.ensures.none c.get_flag.ensures.value c.get_flag.ensures.other;
  lang = text_read (found_of c.args.options.now) (codes "lang") c.get_str-2.result _ _ c.get_str-2.ensures c.unwrap_or-2.ensures;
}
