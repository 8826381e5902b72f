use Rattle.std.proofs.Common.{◌∙◌, Option, Some, ap, codes, refl, sym}
use Rattle.clap.specs.Words.{found_of}
use Rattle.audit_options.proofs.ReadingLemmas.{none_given, text_given}
use Rattle.audit_options.proofs.reading.unlock_in.Goals.{in-Some+in-Some-id_in, in-None}
use Rattle.audit_options.proofs.reading.unlock_in.Goals as goal

pub returns-in-None-id_in-clause-misused : goal.returns-in-None-id_in-clause-misused
returns-in-None-id_in-clause-misused c = (
  refl,
  (
    c.in-Some.word.now,
    text_given (found_of c.args.options.now) (codes "id") c.get_str.result c.in-Some.word c.get_str.ensures c.in-Some.is,
    sym c.id_in.ensures ∙ c.in-None-id_in.is,
  ),
)

pub returns-clause-asked : goal.returns-clause-asked
returns-clause-asked c =
    let found = found_of c.args.options.now in record {
      form_set = c.form_set_in.ensures;
      id = elim c.match-get_str.branch [
        | in-Some+in-Some-id_in w ↦
            rw (w.id-is, text_given found (codes "id") c.get_str.result w.in-Some.word c.get_str.ensures w.in-Some.is)
            (ap (λ (id : Option _). Some id) (sym w.id_in.ensures ∙ w.in-Some-id_in.is))
        | in-None w ↦ rw (w.id-is, none_given found (codes "id") c.get_str.result c.get_str.ensures w.in-None.is) refl
      ];
    }
