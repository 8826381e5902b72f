-- The defaults of a class over the bytes that stores are given (own rule; laid_defaults says what they are).
use Rattle.std.specs.Prelude.{ℕ, Option, Some, None, List, [], ◌++◌, codes, decimal}
use Rattle.browser_rules.specs.Strings.{Spoken}
use Rattle.audit_json.specs.Objects.{number_member, object}
use Rattle.audit_json.specs.Telling.{told_as}
use Rattle.audit_json.specs.declared.telling.Telling.{Telling}
use Rattle.hii_varstore.specs.Stores.{StoreMap}
use Rattle.laid_defaults.specs.Laying.{Laid, laid}

-- the class, and the string packages of which one is chosen
pub record Defaults : Type 0 where
  pub class : ℕ
  pub spoken : List Spoken
  pub language : Option ℕ

abbrev pub laid_over : List ℕ → Defaults → StoreMap → Laid
laid_over ifr d stores = laid record { ifr = ifr; spoken = d.spoken; language = d.language } d.class stores

-- what the stores hold then, and how many defaults were taken, in a line or as an object
abbrev pub left_by : List ℕ → Option Defaults → StoreMap → StoreMap
left_by ifr None stores = stores
left_by ifr (Some d) stores = (laid_over ifr d stores).stores

abbrev pub count_line : Laid → ℕ → List ℕ
count_line laid class = codes "DEFAULTS " ++ decimal laid.count ++ codes " of class " ++ decimal class ++ codes "\n"

abbrev pub count_object : Laid → ℕ → List ℕ
count_object laid class =
    object (codes "defaults") (number_member (codes "count") laid.count
    ++ number_member (codes "class") class)

abbrev pub count_told : Telling → Laid → ℕ → List ℕ
count_told telling laid class = told_as telling (count_line laid class) (count_object laid class)

abbrev pub defaults_told : Telling → List ℕ → Option Defaults → StoreMap → List ℕ
defaults_told telling ifr None stores = []
defaults_told telling ifr (Some d) stores = count_told telling (laid_over ifr d stores) d.class
