use Rattle.std.proofs.Common.{codes}
use Rattle.clap.specs.Words.{found_of}
use Rattle.audit_options.proofs.ReadingLemmas.{given_read, number_read, text_read}
use Rattle.audit_options.proofs.reading.list_in.Goals as goal

pub returns : goal.returns
returns c = record {
  path = text_read (found_of c.args.options.now) (codes "list") c.get_str.result _ _ c.get_str.ensures c.unwrap_or.ensures;
  take = given_read 64 (found_of c.args.options.now) (codes "take") c.get_one.result c.get_one.ensures.none c.get_one.ensures.value;
  forms = number_read 16 (found_of c.args.options.now) (codes "forms") c.get_one-2.result 1 _ c.get_one-2.ensures.none c.get_one-2.ensures.value c.unwrap_or-2.ensures;
}
