use Rattle.std.proofs.Common.{codes}
use Rattle.clap.specs.Words.{found_of}
use Rattle.audit_options.proofs.ReadingLemmas.{text_read}
use Rattle.audit_options.proofs.reading.report_in.Goals as goal

pub returns : goal.returns
returns c = record {
  form_set = c.form_set_in.ensures;
  out = text_read (found_of c.args.options.now) (codes "out") c.get_str.result _ _ c.get_str.ensures c.unwrap_or.ensures;
}
