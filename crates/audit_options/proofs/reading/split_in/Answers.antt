use Rattle.std.proofs.Common.{◌∙◌, ap, codes, inl, inr, is_some, option_map, refl, subst, sym}
use Rattle.clap.specs.Words.{found_of, one_of, rows_of}
use Rattle.clap.proofs.WalkLemmas.{first_value-rows}
use Rattle.audit_options.specs.Asked.{AsksTaken, ReadsIfGiven}
use Rattle.audit_options.proofs.ReadingLemmas.{flag_read, given_read, text_read}
use Rattle.audit_options.proofs.reading.split_in.Goals.{in-Some-Some, in-None-None, in_default-via-in-Some+in_default, in_default-via-in-None+in_default}
use Rattle.audit_options.proofs.reading.split_in.Goals as goal

pub returns-clause-asked : goal.returns-clause-asked
returns-clause-asked c =
    let found = found_of c.args.options.now in
    let take = given_read 64 found (codes "take") c.get_one.result c.get_one.ensures.none c.get_one.ensures.value in
    record {
      dump = text_read found (codes "dump") c.get_str-2.result _ _ c.get_str-2.ensures c.unwrap_or.ensures;
      taken = elim c.match-get_one.branch [
        | in-Some-Some w ↦ subst (AsksTaken (rows_of found)) (sym w.taken-is) (
          subst (ReadsIfGiven 64 (one_of (codes "take") (rows_of found))) w.in-Some-Some.is-0 take,
          sym (first_value-rows found (codes "out")) ∙ sym c.get_str.ensures ∙ ap (option_map (λ s. s.now)) w.in-Some-Some.is-1,
        )
        | in-None-None w ↦ subst (AsksTaken (rows_of found)) (sym w.taken-is) (
          subst (ReadsIfGiven 64 (one_of (codes "take") (rows_of found))) w.in-None-None.is-0 take,
          sym (first_value-rows found (codes "out")) ∙ sym c.get_str.ensures ∙ ap (option_map (λ s. s.now)) w.in-None-None.is-1,
        )
      ];
      json = flag_read found (codes "json") _ c.get_flag.ensures.none c.get_flag.ensures.value c.get_flag.ensures.other;
    }

pub returns-in_default-clause-misused : goal.returns-in_default-clause-misused
returns-in_default-clause-misused c =
    let found = found_of c.args.options.now in
    let take = given_read 64 found (codes "take") c.get_one.result c.get_one.ensures.none c.get_one.ensures.value in
    let out = sym (first_value-rows found (codes "out")) ∙ sym c.get_str.ensures in (
      refl,
      elim c.in_default.branch [
        | in_default-via-in-Some+in_default w ↦ inl (
          out ∙ ap (option_map (λ s. s.now)) w.in_default.is-1,
          w.in_default.field-0-0,
          subst (ReadsIfGiven 64 (one_of (codes "take") (rows_of found))) w.in_default.is-0 take,
        )
        | in_default-via-in-None+in_default w ↦ inr (
          ap is_some (out ∙ ap (option_map (λ s. s.now)) w.in_default.is-1),
          subst (ReadsIfGiven 64 (one_of (codes "take") (rows_of found))) w.in_default.is-0 take,
        )
      ],
    )
