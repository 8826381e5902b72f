-- What is told of the forms packages of a list (own rule).
use Rattle.std.specs.Prelude.{◌≡◌, ◌⊎◌, ℕ, suc, ◌+◌, Bool, false, List, [], ◌∷◌, ◌++◌, map}
use Rattle.std.specs.List.{AllByRecursion, list_all}
use Rattle.browser_rules.specs.Packages.{FORMS, Package, packages_with}
use Rattle.browser_rules.specs.Strings.{Spoken}
use Rattle.hii_bytes.specs.Faults.{HasNone, IsLeast}
use Rattle.hii_bytes.specs.declared.cause.Fault.{Fault}
use Rattle.audit_json.specs.declared.telling.Telling.{Telling}
use Rattle.opcode_audit.specs.Lines.{said_first}
use Rattle.check_audit.specs.Lacks.{Lack, lacks_in}
use Rattle.check_audit.specs.Lines.{list_refusal_told, package_told}
use Rattle.check_audit.specs.Verdicts.{IsListFault, IsVerdict, is_good}
use Rattle.check_audit.specs.declared.verdict.Verdict.{Verdict}

-- a forms package, and what is found of it
pub record Judged : Type 0 where
  pub source : Package
  pub verdict : Verdict

-- in a list, by what its string packages say
abbrev pub IsJudged : List ℕ → Judged → Type 0
IsJudged list j = IsVerdict (said_first list) (lacks_in list) j.source.bytes j.verdict

-- How the forms packages of a list are told, by what is said of string ids, what further string packages lack, and the offset of the
-- list in the file that was given.
pub record Told : Type 0 where
  pub telling : Telling
  pub spoken : List Spoken
  pub lacks : List Lack
  pub start : ℕ

abbrev pub judged_told : Told → ℕ → Judged → List ℕ
judged_told t number j =
    package_told record { telling = t.telling; spoken = t.spoken; lacks = t.lacks; base = t.start + j.source.place } number
    j.source j.verdict

-- packages one behind the other, of which the first has this number
abbrev pub packages_told : Told → ℕ → List Judged → List ℕ
packages_told t number [] = []
packages_told t number (j ∷ js) = judged_told t number j ++ packages_told t (suc number) js

abbrev pub told_of : Telling → List ℕ → ℕ → Told
told_of telling list start =
    record { telling = telling; spoken = said_first list; lacks = lacks_in list; start = start }

-- The text tells the first forms packages of a list, in order and numbered from 1, each with what is found of it; these are left.
pub record TellsPackages (telling : Telling) (list : List ℕ) (start : ℕ) (left : List Package) (text : List ℕ) : Type 0 where
  pub judged : List Judged
  pub each : AllByRecursion (IsJudged list) judged
  pub in_order : map (λ j. j.source) judged ++ left ≡ packages_with FORMS list
  pub written : text ≡ packages_told (told_of telling list start) 1 judged

-- whether no forms package that is told has a fault
abbrev pub all_good : List Judged → Bool
all_good judged = list_all (λ j. is_good j.verdict) judged

-- The text tells all forms packages of a list, and whether none has a fault.
abbrev pub TellsAll : Telling → List ℕ → ℕ → Bool → List ℕ → Type 0
TellsAll telling list start is text =
    (tells : TellsPackages telling list start [] text) × (is ≡ all_good tells.judged)

-- The list is refused as a whole, by its least fault; or all its forms packages are told.
abbrev pub IsCheck : Telling → List ℕ → ℕ → Bool → List ℕ → Type 0
IsCheck telling list start is text =
    ((fault : Fault) × IsLeast (IsListFault list) fault × (is ≡ false)
    × (text ≡ list_refusal_told telling start fault))
    ⊎ (HasNone (IsListFault list) × TellsAll telling list start is text)

-- The text tells of some forms packages, or of none.
abbrev pub BeginsCheck : Telling → List ℕ → ℕ → List ℕ → Type 0
BeginsCheck telling list start text = (left : List Package) × TellsPackages telling list start left text
