-- The defaults of `--defaults` (own rule).
use Rattle.std.specs.Prelude.{ℕ, Option, Some, None, option_map, List}
use Rattle.browser_rules.specs.Strings.{chosen, spoken_in}
use Rattle.hii_bytes.specs.Faults.{HasNone, Then}
use Rattle.hii_bytes.specs.declared.cause.Cause.{Cause}
use Rattle.session_steps.specs.Opening.{IsFormSetFault, IsSourceFault, IsTextFault, forms_bytes}
use Rattle.audit_options.specs.declared.tasks.ImageOptions.{ImageOptions}
use Rattle.store_audit.specs.Declaring.{IsDeclaredFault}
use Rattle.store_audit.specs.Defaulted.{Defaults}
use Rattle.store_commands.specs.Storing.{IsDeclaredBy}

-- the class, and the texts of the list for the language
abbrev pub defaults_asked : ImageOptions → List ℕ → Option Defaults
defaults_asked options list =
    option_map (λ class. record { class = class; spoken = spoken_in list; language = chosen (spoken_in list) options.lang.now })
    options.defaults

-- Where defaults are asked for the string packages are read, too.
abbrev pub IsFaultWith : Option ℕ → List ℕ → ℕ → Cause → ℕ → Type 0
IsFaultWith None list n = IsDeclaredFault list n
IsFaultWith (Some class) list n =
    Then (IsSourceFault list n) (Then (IsTextFault list) (IsFormSetFault (forms_bytes list n)))

abbrev pub IsMadeFault : ImageOptions → List ℕ → Cause → ℕ → Type 0
IsMadeFault options list = IsFaultWith options.defaults list options.list.forms

-- These are the bytes of the forms package, and the list has no fault that counts.
pub record IsMadeOf (options : ImageOptions) (list ifr : List ℕ) : Type 0 where
  pub declared : IsDeclaredBy list options.list.forms ifr
  pub sound : HasNone (IsMadeFault options list)
