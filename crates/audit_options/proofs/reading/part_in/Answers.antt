use Rattle.std.proofs.Common.{◌≡◌, ◌∙◌, Bool, codes, is_none, option_map, rules, subst, sym, true, false}
use Rattle.std.specs.Borrow.{Bor}
use Rattle.clap.specs.Words.{found_of}
use Rattle.clap.specs.Walk.{Text, one_of, rows_of}
use Rattle.clap.proofs.WalkLemmas.{first_value-rows}
use Rattle.audit_options.specs.Asked.{IsFlag, is_part}
use Rattle.audit_options.proofs.ReadingLemmas.{flag_read, no_part, none_given, none_where, part_of_id, part_of_lines, part_of_none, part_of_out, part_of_with, text_given}
use Rattle.audit_options.proofs.reading.part_in.Goals.{in_default-via-in-Some-Some+then-is_none+else-not-lines, in_default-via-in-Some-Some+else-is_none, in_default-via-in-Some+in_default, in_default-via-in-None-None+else-lines, in_default-via-in-None+in_default}
use Rattle.audit_options.proofs.reading.part_in.Goals as goal

pub returns-in-Some-clause-asked : goal.returns-in-Some-clause-asked
returns-in-Some-clause-asked c =
    let found = found_of c.args.options.now in
    let off : c.get_flag-lines.result ≡ false = search rules in
    let without : is_none c.get_str-with.result ≡ true = search rules in
    let flag = flag_read found (codes "lines") _ c.get_flag-lines.ensures.none c.get_flag-lines.ensures.value c.get_flag-lines.ensures.other in (
      c.in-Some-Some.id.now,
      text_given found (codes "id") c.get_str.result c.in-Some-Some.id c.get_str.ensures c.in-Some-Some.is-0,
      sym c.id_in.ensures ∙ c.in-Some.is,
      text_given found (codes "out") c.get_str-2.result c.in-Some-Some.out c.get_str-2.ensures c.in-Some-Some.is-1,
      none_given found (codes "with") c.get_str-with.result c.get_str-with.ensures (none_where c.get_str-with.result without),
      subst (IsFlag (one_of (codes "lines") (rows_of found))) off flag,
    )

pub returns-in-None-clause-misused : goal.returns-in-None-clause-misused
returns-in-None-clause-misused c =
    let found = found_of c.args.options.now in (
      c.in-Some-Some.id.now,
      text_given found (codes "id") c.get_str.result c.in-Some-Some.id c.get_str.ensures c.in-Some-Some.is-0,
      sym c.id_in.ensures ∙ c.in-None.is,
    )

pub returns-in-None-None-clause-asked : goal.returns-in-None-None-clause-asked
returns-in-None-None-clause-asked c =
    let found = found_of c.args.options.now in
    let on : c.get_flag-lines.result ≡ true = search rules in
    let flag = flag_read found (codes "lines") _ c.get_flag-lines.ensures.none c.get_flag-lines.ensures.value c.get_flag-lines.ensures.other in (
      none_given found (codes "id") c.get_str.result c.get_str.ensures c.in-None-None.is-0,
      none_given found (codes "out") c.get_str-2.result c.get_str-2.ensures c.in-None-None.is-1,
      c.get_str-with.ensures ∙ first_value-rows found (codes "with"),
      subst (IsFlag (one_of (codes "lines") (rows_of found))) on flag,
    )

pub returns-in_default-clause-misused : goal.returns-in_default-clause-misused
returns-in_default-clause-misused c =
    let found = found_of c.args.options.now in
    let flag = flag_read found (codes "lines") _ c.get_flag-lines.ensures.none c.get_flag-lines.ensures.value c.get_flag-lines.ensures.other in
    let by_lines = λ (l : Bool). is_part (option_map (λ (s : Bor Text). s.now) c.get_str.result) (option_map (λ (s : Bor Text). s.now) c.get_str-2.result) (option_map (λ (s : Bor Text). s.now) c.get_str-with.result) l ≡ false in
    no_part found c.get_str.result c.get_str-2.result c.get_str-with.result c.get_flag-lines.result c.get_str.ensures c.get_str-2.ensures c.get_str-with.ensures flag
    (elim c.in_default.branch [
      | in_default-via-in-Some-Some+then-is_none+else-not-lines w ↦
          let on : c.get_flag-lines.result ≡ true = search rules in
          subst by_lines (sym on) (part_of_lines c.get_str.result c.get_str-2.result c.get_str-with.result _ w.in-Some-Some.is-0)
      | in_default-via-in-Some-Some+else-is_none w ↦
          let with : is_none c.get_str-with.result ≡ false = search rules in
          part_of_with c.get_str.result c.get_str-2.result c.get_str-with.result c.get_flag-lines.result _ _ w.in-Some-Some.is-0 w.in-Some-Some.is-1 with
      | in_default-via-in-Some+in_default w ↦ part_of_id c.get_str.result c.get_str-2.result c.get_str-with.result c.get_flag-lines.result _ w.in_default.is-0 w.in_default.is-1
      | in_default-via-in-None-None+else-lines w ↦
          let off : c.get_flag-lines.result ≡ false = search rules in
          subst by_lines (sym off) (part_of_none c.get_str.result c.get_str-2.result c.get_str-with.result w.in-None-None.is-0)
      | in_default-via-in-None+in_default w ↦ part_of_out c.get_str.result c.get_str-2.result c.get_str-with.result c.get_flag-lines.result _ w.in_default.is-0 w.in_default.is-1
    ])
