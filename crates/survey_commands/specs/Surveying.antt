-- What is found of the lists of a dump, and how that is told (own rule).
use Rattle.std.specs.Prelude.{◌≡◌, ◌⊎◌, ⊤, ℕ, suc, ◌+◌, Bool, Option, Some, None, List, [], ◌∷◌, ◌++◌, length, map}
use Rattle.std.specs.List.{AllByRecursion, concat, find}
use Rattle.browser_rules.specs.Packages.{FORMS, Package, packages_with}
use Rattle.hii_bytes.specs.Faults.{HasNone, IsLeast}
use Rattle.hii_bytes.specs.declared.cause.Fault.{Fault}
use Rattle.hii_dumps.specs.Dumps.{Entry, SpellsDump, placed}
use Rattle.hii_varstore.specs.Image.{image_of}
use Rattle.session_steps.specs.Opening.{IsFormSetFault, Opens}
use Rattle.session_steps.specs.State.{State}
use Rattle.audit_json.specs.declared.telling.Telling.{Telling}
use Rattle.audit_options.specs.declared.tasks.Sources.{Sources}
use Rattle.dump_audit.specs.Lines.{has_lists, no_lists_told}
use Rattle.question_audit.specs.Audited.{Audited}
use Rattle.opcode_audit.specs.Lines.{said_first}
use Rattle.check_audit.specs.Verdicts.{IsListFault}
use Rattle.survey_audit.specs.AuditedAt.{audited_at}
use Rattle.survey_audit.specs.Lines.{Heading, fault_told, list_fault_told, unfit_told}
use Rattle.survey_audit.specs.Opened.{opened_told}
use Rattle.store_commands.specs.Files.{Known}
use Rattle.store_commands.specs.Imaging.{AreSupplied, Supply, is_unfit, stores_given}

-- What is asked of all forms packages: how they are told, what is known of files, where the bytes of stores come from, the configuration
-- text, the language of texts, and by which small letters questions are found.
pub record Asked : Type 0 where
  pub telling : Telling
  pub known : List ℕ → Known
  pub sources : Sources
  pub text : List ℕ
  pub lang : List ℕ
  pub letters : Option (List ℕ)

-- ---- a forms package

-- it is opened, a store is not given what it holds, or it is refused
pub data Finding : Type 0 where
  Opened : (a : Audited) → Finding
  Unfit : (supply : Supply) → Finding
  Refused : (fault : Fault) → Finding

-- The stores of a forms package of a number are given what they hold, and over the image that `image` makes of them a session opens, at
-- which this is looked at.
pub record IsOpened (asked : Asked) (list : List ℕ) (number : ℕ) (source : Package) (a : Audited) : Type 0 where
  pub supplies : List Supply
  pub given : AreSupplied asked.known asked.sources asked.text source.bytes supplies
  pub fit : find is_unfit supplies ≡ None
  pub start : State
  pub opens : Opens list number (image_of (stores_given source.bytes supplies)) asked.lang start
  pub seen : a ≡ audited_at start

-- The forms package has no fault, and this is its first store that is not given what it holds, of which `image` tells.
pub record IsUnfit (asked : Asked) (source : Package) (supply : Supply) : Type 0 where
  pub sound : HasNone (IsFormSetFault source.bytes)
  pub supplies : List Supply
  pub given : AreSupplied asked.known asked.sources asked.text source.bytes supplies
  pub unfit : find is_unfit supplies ≡ Some supply

-- This is found of the forms package of a number; its least fault is that of a session and that of `image`, whatever the stores hold.
abbrev pub IsFound : Asked → List ℕ → ℕ → Package → Finding → Type 0
IsFound asked list number source (Opened a) = IsOpened asked list number source a
IsFound asked list number source (Unfit supply) = IsUnfit asked source supply
IsFound asked list number source (Refused fault) = IsLeast (IsFormSetFault source.bytes) fault

pub record Found : Type 0 where
  pub source : Package
  pub finding : Finding

abbrev pub finding_told : Asked → Heading → Finding → List ℕ
finding_told asked h (Opened a) = opened_told h a asked.letters
finding_told asked h (Unfit supply) = unfit_told h supply.node supply.source
finding_told asked h (Refused fault) = fault_told h fault

-- ---- the forms packages of a list

-- a list of a dump by its number
pub record Numbered : Type 0 where
  pub number : ℕ
  pub entry : Entry

abbrev pub heading_for : Asked → Numbered → ℕ → Package → Heading
heading_for asked list number source = record {
  telling = asked.telling;
  list = list.number;
  number = number;
  spoken = said_first list.entry.bytes;
  source = source;
  base = list.entry.place + source.place;
}

-- This is found of forms packages, one behind the other, of which the first has this number.
abbrev pub AreFound : Asked → List ℕ → ℕ → List Found → Type 0
AreFound asked list number [] = ⊤
AreFound asked list number (f ∷ fs) =
    IsFound asked list number f.source f.finding × AreFound asked list (suc number) fs

abbrev pub found_told : Asked → Numbered → ℕ → Found → List ℕ
found_told asked list number f = finding_told asked (heading_for asked list number f.source) f.finding

abbrev pub all_told : Asked → Numbered → ℕ → List Found → List ℕ
all_told asked list number [] = []
all_told asked list number (f ∷ fs) = found_told asked list number f ++ all_told asked list (suc number) fs

-- These are the first forms packages of a list that has no fault of its own, in order, with what is found of each; the others are left.
pub record AreFirst (asked : Asked) (list : List ℕ) (fs : List Found) (left : List Package) : Type 0 where
  pub sound : HasNone (IsListFault list)
  pub each : AreFound asked list 1 fs
  pub in_order : map (λ f. f.source) fs ++ left ≡ packages_with FORMS list

-- ---- a list

-- its forms packages, or the least fault by which it is refused as a whole
pub data Contents : Type 0 where
  Sets : (fs : List Found) → Contents
  NoSets : (fault : Fault) → Contents

abbrev pub IsSurveyed : Asked → List ℕ → Contents → Type 0
IsSurveyed asked list (Sets fs) = AreFirst asked list fs []
IsSurveyed asked list (NoSets fault) = IsLeast (IsListFault list) fault

abbrev pub contents_told : Asked → Numbered → Contents → List ℕ
contents_told asked list (Sets fs) = all_told asked list 1 fs
contents_told asked list (NoSets fault) = list_fault_told asked.telling list.number fault

pub record Surveyed : Type 0 where
  pub entry : Entry
  pub contents : Contents

-- What is found of a list is this.
abbrev pub IsOf : Asked → Surveyed → Type 0
IsOf asked s = IsSurveyed asked s.entry.bytes s.contents

abbrev pub surveyed_told : Asked → ℕ → Surveyed → List ℕ
surveyed_told asked number s = contents_told asked record { number = number; entry = s.entry } s.contents

-- ---- a dump

-- lists, numbered from this number on
abbrev pub lists_told : Asked → ℕ → List Surveyed → List ℕ
lists_told asked number [] = []
lists_told asked number (s ∷ ss) = surveyed_told asked number s ++ lists_told asked (suc number) ss

-- The text tells each list of the dump, in order, and where there is none, that.
pub record IsSurvey (asked : Asked) (is_some : Bool) (dump text : List ℕ) : Type 0 where
  pub lists : List (List ℕ)
  pub rest : List ℕ
  pub spelled : SpellsDump dump lists rest
  pub surveyed : List Surveyed
  pub each : AllByRecursion (IsOf asked) surveyed
  pub in_order : map (λ s. s.entry) surveyed ≡ placed 0 lists
  pub some : is_some ≡ has_lists lists
  pub written : text ≡ lists_told asked 1 surveyed ++ no_lists_told asked.telling lists

-- ---- what is told where the telling ends before the dump does

-- Nothing is told of a forms package of a list, or the text begins what is.
abbrev pub BeginsSet : Asked → List ℕ → Heading → List ℕ → Type 0
BeginsSet asked list h text =
    (text ≡ [])
    ⊎ ((finding : Finding) × IsFound asked list h.number h.source finding × (rest : List ℕ)
    × (finding_told asked h finding ≡ text ++ rest))

-- The text tells the first forms packages of a list, and begins to tell the next.
pub record BeginsList (asked : Asked) (list : Numbered) (text : List ℕ) : Type 0 where
  pub before : List Found
  pub next : Package
  pub left : List Package
  pub first : AreFirst asked list.entry.bytes before (next ∷ left)
  pub begun : List ℕ
  pub begins : BeginsSet asked list.entry.bytes (heading_for asked list (suc (length before)) next) begun
  pub written : text ≡ all_told asked list 1 before ++ begun

-- The text tells the first lists of a dump; of the next nothing is told, or its first forms packages and the beginning of another.
pub record BeginsSurvey (asked : Asked) (dump text : List ℕ) : Type 0 where
  pub lists : List (List ℕ)
  pub rest : List ℕ
  pub spelled : SpellsDump dump lists rest
  pub before : List Surveyed
  pub each : AllByRecursion (IsOf asked) before
  pub next : Entry
  pub later : List Entry
  pub in_order : map (λ s. s.entry) before ++ next ∷ later ≡ placed 0 lists
  pub begun : List ℕ
  pub begins : (begun ≡ [])
      ⊎ BeginsList asked record { number = suc (length before); entry = next } begun
  pub written : text ≡ lists_told asked 1 before ++ begun
