use Rattle.std.proofs.Common.{codes, ◌∙◌}
use Rattle.clap.specs.Words.{found_of}
use Rattle.clap.proofs.WalkLemmas.{first_value-rows}
use Rattle.audit_options.proofs.ReadingLemmas.{flag_read, text_read}
use Rattle.audit_options.proofs.reading.survey_in.Goals as goal

pub returns : goal.returns
returns c = record {
  dump = text_read (found_of c.args.options.now) (codes "dump") c.get_str.result _ _ c.get_str.ensures c.unwrap_or.ensures;
  files = c.sources_in.ensures.files ∙ c.new.ensures.items;
  sources = c.sources_in.ensures.asked;
  find = c.get_str-2.ensures ∙ first_value-rows (found_of c.args.options.now) (codes "find");
  json = flag_read (found_of c.args.options.now) (codes "json") _ c.get_flag.ensures.none c.get_flag.ensures.value c.get_flag.ensures.other;
  lang = text_read (found_of c.args.options.now) (codes "lang") c.get_str-3.result _ _ c.get_str-3.ensures c.unwrap_or-2.ensures;
}
