use Rattle.std.proofs.Common.{◌∙◌, ap, codes, refl, sym}
use Rattle.clap.specs.Words.{found_of}
use Rattle.audit_options.specs.Ids.{id_in}
use Rattle.audit_options.proofs.ReadingLemmas.{text_read}
use Rattle.audit_options.proofs.reading.question_in.Goals as goal

pub returns-in_default-clause-misused : goal.returns-in_default-clause-misused
returns-in_default-clause-misused c =
    let read = text_read (found_of c.args.options.now) (codes "id") c.get_str.result _ _ c.get_str.ensures c.unwrap_or.ensures in
    (refl, ap id_in (sym read) ∙ sym c.id_in.ensures ∙ c.in_default.is)

pub returns-clause-asked : goal.returns-clause-asked
returns-clause-asked c =
    let read = text_read (found_of c.args.options.now) (codes "id") c.get_str.result _ _ c.get_str.ensures c.unwrap_or.ensures in
    record { form_set = c.form_set_in.ensures; id = ap id_in (sym read) ∙ sym c.id_in.ensures ∙ c.in-Some.is }
