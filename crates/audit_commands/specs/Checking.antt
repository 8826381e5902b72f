-- What `check` says of a list (own rule).
use Rattle.std.specs.Prelude.{◌≡◌, ℕ, true, false, List, ◌++◌}
use Rattle.hii_bytes.specs.declared.cause.Cause.TheVariants.{OutOfMemory}
use Rattle.audit_json.specs.declared.telling.Telling.{Telling}
use Rattle.check_audit.specs.Checks.{BeginsCheck, IsCheck}
use Rattle.audit_answers.specs.Endings.{refused_told}
use Rattle.audit_answers.specs.declared.ended.Ended.{Ended}
use Rattle.audit_answers.specs.declared.ended.Ended.TheVariants.{Done, Refused, NoMemory}

-- each of its forms packages is good, or some are refused, of a list that begins at an offset of the file that was given
abbrev pub SaysCheck : Telling → List ℕ → ℕ → Ended → List ℕ → Type 0
SaysCheck telling list start Done text = IsCheck telling list start true text
SaysCheck telling list start Refused text = IsCheck telling list start false text
SaysCheck telling list start NoMemory text =
    (begun : List ℕ) × BeginsCheck telling list start begun
    × (text ≡ begun ++ refused_told telling OutOfMemory)
SaysCheck telling list start _ text = ⊥
