-- What is told of a dump, in lines or in objects (own rule).
use Rattle.std.specs.Prelude.{◌≡◌, ℕ, suc, Bool, true, false, Option, None, Some, List, [], ◌∷◌, ◌++◌, length, map, codes, decimal}
use Rattle.std.specs.List.{AllByRecursion, concat, flat_map}
use Rattle.browser_rules.specs.Packages.{Package}
use Rattle.hii_bytes.specs.Texts.{place_text, fault_text}
use Rattle.hii_dumps.specs.Dumps.{Entry, SpellsDump, placed}
use Rattle.browser_rules.specs.Strings.{Spoken, shown}
use Rattle.audit_text.specs.Texts.{joined, language_name, safe_text}
use Rattle.audit_json.specs.Telling.{told_as}
use Rattle.audit_json.specs.declared.telling.Telling.{Telling}
use Rattle.dump_audit.specs.Contents.{form_sets, forms_in, guid_word, first_title}
use Rattle.dump_audit.specs.Findings.{Finding, Contents, Refused, IsFound}
use Rattle.dump_audit.specs.Objects.{list_object, no_list_object, rest_object}

-- which list a line is of: its number, its place in the dump and its length in bytes
abbrev pub head_text : ℕ → Entry → List ℕ
head_text number list =
    codes "LIST " ++ decimal number ++ codes " " ++ place_text list.place ++ codes " "
    ++ decimal (length list.bytes) ++ codes " "

-- the languages of the string packages
abbrev pub languages_text : List Spoken → List ℕ
languages_text spoken = joined (codes ",") (map language_name (map (λ s. s.language) spoken))

-- the text of a title's string id, where there is one, as it is shown in the language of the first string package
abbrev pub title_text : List Spoken → Option ℕ → List ℕ
title_text spoken None = []
title_text spoken (Some id) =
    codes " " ++ safe_text (shown spoken (Some 0) id)

-- how many forms packages there are, the GUIDs of the form sets with which they begin, the languages, the first form set's title
abbrev pub contents_text : List Package → List Spoken → List ℕ
contents_text packages spoken =
    codes "forms " ++ decimal (length (forms_in packages))
    ++ flat_map guid_word (form_sets packages) ++ codes " strings " ++ languages_text spoken
    ++ title_text spoken (first_title (form_sets packages))

-- what the packages of a list are, or by which cause it is refused, and at which place, in bytes from its first one
abbrev pub finding_text : Finding → List ℕ
finding_text (Contents packages spoken) = contents_text packages spoken
finding_text (Refused fault) = fault_text fault

-- a list of a dump, and what is found of it
pub record Told : Type 0 where
  pub entry : Entry
  pub finding : Finding

abbrev pub line : ℕ → Told → List ℕ
line number told = head_text number told.entry ++ finding_text told.finding ++ codes "\n"

abbrev pub list_told : Telling → ℕ → Told → List ℕ
list_told telling number told =
    told_as telling (line number told) (list_object number told.entry told.finding)

-- lists, numbered from this number on
abbrev pub lists_told : Telling → ℕ → List Told → List ℕ
lists_told telling number [] = []
lists_told telling number (told ∷ more) =
    list_told telling number told ++ lists_told telling (suc number) more

-- the line of the rest at a place of the dump, where it has some bytes
abbrev pub rest_line : ℕ → List ℕ → List ℕ
rest_line place [] = []
rest_line place (byte ∷ bytes) =
    codes "REST " ++ place_text place ++ codes " " ++ decimal (length (byte ∷ bytes)) ++ codes "\n"

abbrev pub rest_told : Telling → ℕ → List ℕ → List ℕ
rest_told telling place rest = told_as telling (rest_line place rest) (rest_object place rest)

-- that there is no list of a number
abbrev pub no_list_text : ℕ → List ℕ
no_list_text number = codes "NO LIST " ++ decimal number ++ codes "\n"

abbrev pub no_list_told : Telling → ℕ → List ℕ
no_list_told telling number = told_as telling (no_list_text number) (no_list_object number)

abbrev pub has_lists : List (List ℕ) → Bool
has_lists [] = false
has_lists (list ∷ lists) = true

-- where there is none at all, that is told behind the rest
abbrev pub no_lists_told : Telling → List (List ℕ) → List ℕ
no_lists_told telling [] = no_list_told telling 1
no_lists_told telling (list ∷ lists) = []

-- What is found of a list is told.
abbrev pub IsTold : Told → Type 0
IsTold told = IsFound told.entry.bytes told.finding

-- The text tells each list of the dump, in order and numbered from 1, and behind these its rest, and where there is no list, that.
pub record IsSplitText (telling : Telling) (is_some : Bool) (dump text : List ℕ) : Type 0 where
  pub lists : List (List ℕ)
  pub rest : List ℕ
  pub spelled : SpellsDump dump lists rest
  pub told : List Told
  pub each : AllByRecursion IsTold told
  pub in_order : map (λ t. t.entry) told ≡ placed 0 lists
  pub some : is_some ≡ has_lists lists
  pub written : text
      ≡ lists_told telling 1 told ++ rest_told telling (length (concat lists)) rest
      ++ no_lists_told telling lists

-- The text tells the first lists of the dump, in order and numbered from 1, and not yet the next one.
pub record BeginsSplitText (telling : Telling) (dump text : List ℕ) : Type 0 where
  pub lists : List (List ℕ)
  pub rest : List ℕ
  pub spelled : SpellsDump dump lists rest
  pub told : List Told
  pub each : AllByRecursion IsTold told
  pub next : Entry
  pub later : List Entry
  pub in_order : map (λ t. t.entry) told ++ next ∷ later ≡ placed 0 lists
  pub written : text ≡ lists_told telling 1 told
