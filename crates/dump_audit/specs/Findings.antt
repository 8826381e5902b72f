-- What is found of a package list: its packages and what its string packages say, or its least fault (UEFI 2.8, 33.3.1 Package Lists
-- and Package Headers, 33.3.6 String Package; that these faults are told, in this order, is an own rule).
use Rattle.std.specs.Prelude.{◌≡◌, ℕ, List, []}
use Rattle.browser_rules.specs.Faults.{list_faults, string_faults, then_faults}
use Rattle.browser_rules.specs.Faults as chapter
use Rattle.browser_rules.specs.Packages.{Package}
use Rattle.browser_rules.specs.Strings.{Spoken, spoken_in}
use Rattle.hii_bytes.specs.declared.cause.Fault.{Fault}
use Rattle.hii_bytes.specs.Faults.{IsLeastAmong}
use Rattle.hii_packages.specs.Packages.{packages_of}

-- the faults of a list's packages, then those of its string packages
abbrev pub list_or_text_faults : List ℕ → List chapter.Fault
list_or_text_faults list = then_faults (list_faults list) (string_faults list)

pub data Finding : Type 0 where
  Contents : (packages : List Package) (spoken : List Spoken) → Finding
  Refused : (fault : Fault) → Finding

-- This is found of the bytes of a list.
abbrev pub IsFound : List ℕ → Finding → Type 0
IsFound list (Contents packages spoken) =
    (list_or_text_faults list ≡ []) × (packages ≡ packages_of list) × (spoken ≡ spoken_in list)
IsFound list (Refused fault) = IsLeastAmong (list_or_text_faults list) fault
