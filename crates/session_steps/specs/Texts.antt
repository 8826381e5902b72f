-- The lines of answers (own rule).
use Rattle.std.specs.Prelude.{ℕ, if◌then◌else◌, List, [], ◌++◌, codes, decimal}
use Rattle.hii_bytes.specs.Texts.{place_text, cause_text, fault_text}
use Rattle.hii_bytes.specs.declared.cause.Cause.{Cause}
use Rattle.hii_bytes.specs.declared.cause.Fault.{Fault}
use Rattle.hii_values.specs.Denials.{kind_name, has_text}
use Rattle.hii_values.specs.declared.denial.DenialKind.{DenialKind}
use Rattle.guard_policy.specs.declared.denial.Denial.{Denial}
use Rattle.guard_policy.specs.declared.warnings.Warning.{Warning}
use Rattle.form_page.specs.Texts.{utf8}

abbrev pub ok_text : List ℕ
ok_text = codes "OK\n"

abbrev pub count_text : ℕ → List ℕ
count_text n = codes "OK " ++ decimal n ++ codes "\n"

abbrev pub changed_text : ℕ → List ℕ
changed_text id = codes "CHANGED " ++ decimal id ++ codes "\n"

abbrev pub message_text : DenialKind → List ℕ → List ℕ
message_text kind message = if has_text kind then codes " " ++ utf8 message else []

-- the line of a denial, by the characters that are shown of its text
abbrev pub denied_text : List ℕ → Denial → List ℕ
denied_text message denial =
    codes "DENIED " ++ kind_name denial.kind ++ codes " at " ++ place_text denial.place
    ++ message_text denial.kind message ++ codes "\n"

-- the line of a warning
abbrev pub warning_text : List ℕ → Warning → List ℕ
warning_text message warning =
    codes "WARNING at " ++ place_text warning.place ++ codes " " ++ utf8 message ++ codes "\n"

-- the line of a warning, by the characters that are shown of each string id
abbrev pub warning_line : (ℕ → List ℕ) → Warning → List ℕ
warning_line texts warning = warning_text (texts warning.message) warning

-- how a line that is no command, or too long, is refused, and what else has no place
abbrev pub refused_text : Cause → List ℕ
refused_text cause = cause_text cause ++ codes "\n"

-- how bytes are refused
abbrev pub refused_at_text : Fault → List ℕ
refused_at_text fault = fault_text fault ++ codes "\n"
