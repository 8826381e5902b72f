-- What is told of forms packages, worked out by hand.
use Rattle.std.proofs.Common.{◌≡◌, true, false, Some, None, [], refl}
use Rattle.std.specs.Prelude.{codes}
use Rattle.std.specs.Fmt.{digits}
use Rattle.hii_bytes.specs.declared.cause.Cause.TheVariants.{NoForms, StringBlock}
use Rattle.hii_bytes.specs.declared.cause.Fault.{Fault}
use Rattle.hii_values.specs.declared.denial.DenialKind.TheVariants.{DisableIf, GrayOutIf, Locked, Outside, ReadOnly, SuppressIf}
use Rattle.audit_json.specs.declared.telling.Telling.TheVariants.{Lines, Objects}
use Rattle.survey_audit.specs.Counts.{standing_of}
use Rattle.survey_audit.specs.Finding.{has_within, small}
use Rattle.survey_audit.specs.Lines.{counts_words, list_fault_told}
use Rattle.survey_audit.specs.declared.counts.Counts.{Counts}
use Rattle.survey_audit.specs.declared.standing.Standing.TheVariants as standing

-- ---- letters

great_letters_find_small_ones : has_within (small (codes "Fan page")) (small (codes "FAN")) ≡ true
great_letters_find_small_ones = refl

letters_stand_anywhere : has_within (small (codes "Air from the fans")) (small (codes "fan")) ≡ true
letters_stand_anywhere = refl

letters_stand_together : has_within (small (codes "Far and near")) (small (codes "fan")) ≡ false
letters_stand_together = refl

nothing_stands_in_nothing : has_within (small (codes "")) (small (codes "")) ≡ true
nothing_stands_in_nothing = refl

something_stands_not_in_nothing : has_within (small (codes "")) (small (codes "f")) ≡ false
something_stands_not_in_nothing = refl

-- ---- verdicts

open_is_open : standing_of None ≡ standing.Open
open_is_open = refl

a_gray_out_if_grays : standing_of (Some record { kind = GrayOutIf; place = 160; message = 0 }) ≡ standing.Grayed
a_gray_out_if_grays = refl

a_suppress_if_hides : standing_of (Some record { kind = SuppressIf; place = 536; message = 0 }) ≡ standing.Hidden
a_suppress_if_hides = refl

a_disable_if_disables : standing_of (Some record { kind = DisableIf; place = 400; message = 0 }) ≡ standing.Disabled
a_disable_if_disables = refl

a_locked_fixes : standing_of (Some record { kind = Locked; place = 8; message = 0 }) ≡ standing.Fixed
a_locked_fixes = refl

a_read_only_is_fixed : standing_of (Some record { kind = ReadOnly; place = 8; message = 0 }) ≡ standing.Fixed
a_read_only_is_fixed = refl

what_is_outside_is_fixed : standing_of (Some record { kind = Outside; place = 8; message = 0 }) ≡ standing.Fixed
what_is_outside_is_fixed = refl

-- ---- lines

station : Counts
station = record {
  forms = 3;
  questions = 21;
  tally = record { changeable = 14; grayed = 1; hidden = 2; disabled = 0; fixed = 4; constant = 0 };
}

the_station_is_counted : counts_words station ≡ codes "forms 3, questions 21, open 14, grayed 1, hidden 2, disabled 0, fixed 4, constant 0"
unfolding digits station
the_station_is_counted = refl

a_block : Fault
a_block = record { cause = StringBlock; place = 0x3e2 }

a_list_is_refused : list_fault_told Lines 3 a_block ≡ codes "SET 3 - - REFUSED 8 StringBlock at 000003e2\n"
unfolding digits a_block
a_list_is_refused = refl

a_list_is_refused_as_an_object : list_fault_told Objects 3 a_block ≡ codes "{\"kind\":\"set\",\"list\":3,\"fault\":{\"cause\":8,\"name\":\"StringBlock\",\"at\":994}}\n"
unfolding digits lib.Utf8.encode a_block
a_list_is_refused_as_an_object = refl

a_list_without_forms_has_no_line : list_fault_told Lines 3 record { cause = NoForms; place = 0 } ≡ []
a_list_without_forms_has_no_line = refl
