-- Which bytes open a session, and with which faults they do not (own rule).
use Rattle.std.specs.Prelude.{◌≡◌, ℕ, List, [], ◌∷◌, filter, Some}
use Rattle.browser_rules.specs.Faults.{list_faults, number_faults, string_faults}
use Rattle.browser_rules.specs.Packages as chapter
use Rattle.browser_rules.specs.Packages.{Package, device_path, forms_package}
use Rattle.browser_rules.specs.Strings.{Spoken, spoken_in, chosen}
use Rattle.hii_bytes.specs.Faults.{HasNone, IsAmong, Then}
use Rattle.hii_bytes.specs.declared.cause.Cause.{Cause}
use Rattle.ifr_opcodes.specs.Forest.{places}
use Rattle.ifr_nodes.specs.Accepted.{IsAccepted, IsPackageFault}
use Rattle.ifr_nodes.specs.Nodes.{nodes_of, is_form}
use Rattle.hii_varstore.specs.Layout.{Shape}
use Rattle.hii_varstore.specs.StoreNodes.{layout_of, IsStoreFault}
use Rattle.hii_varstore.specs.Image.{SpellsImage}
use Rattle.hii_varstore.specs.Faults.{IsImageFault}
use Rattle.hii_questions.specs.Faults.{IsQuestionFault}
use Rattle.guard_policy.specs.World.{removed_at}
use Rattle.session_steps.specs.State.{State}

-- the bytes of the forms package of a number, or none, by the chapter Packages
unfoldable pub forms_bytes : List ℕ → ℕ → List ℕ
forms_bytes list n = chapter.forms_bytes list n

-- The list has no fault, and this is its forms package of the number.
abbrev pub HasSource : List ℕ → ℕ → Package → Type 0
HasSource list n source = (list_faults list ≡ []) × (forms_package list n ≡ Some source)

-- The string packages of the list have no fault, and say this.
abbrev pub HasTexts : List ℕ → List Spoken → Type 0
HasTexts list spoken = (string_faults list ≡ []) × (spoken ≡ spoken_in list)

-- the faults of the string packages of a list, in their order
abbrev pub IsTextFault : List ℕ → Cause → ℕ → Type 0
IsTextFault list = IsAmong (string_faults list)

-- the stores that a package declares
abbrev pub layout_in : List ℕ → Shape
layout_in ifr = layout_of (nodes_of ifr)

-- the faults of a list's packages, then that there is no forms package of the number
abbrev pub IsSourceFault : List ℕ → ℕ → Cause → ℕ → Type 0
IsSourceFault list n = Then (IsAmong (list_faults list)) (IsAmong (number_faults list n))

-- the faults of a forms package, then of its stores, then of its questions
abbrev pub IsFormSetFault : List ℕ → Cause → ℕ → Type 0
IsFormSetFault ifr =
    Then (IsPackageFault ifr) (Then (IsStoreFault (nodes_of ifr)) (IsQuestionFault (nodes_of ifr)))

-- the faults of a forms package, then of the image of its stores
abbrev pub IsBrowsingFault : List ℕ → List ℕ → Cause → ℕ → Type 0
IsBrowsingFault ifr image = Then (IsFormSetFault ifr) (IsImageFault (layout_in ifr) image)

-- The faults of a session's bytes: of the list, then of its string packages, then of the forms package of the number, then
-- of the image of its stores.
abbrev pub IsOpenFault : List ℕ → ℕ → List ℕ → Cause → ℕ → Type 0
IsOpenFault list n image =
    Then (IsSourceFault list n)
    (Then (IsTextFault list) (IsBrowsingFault (forms_bytes list n) image))

-- A forms package can be browsed: it is accepted, and neither its stores nor its questions have a fault.
pub record IsBrowsable (ifr : List ℕ) : Type 0 where
  pub accepted : IsAccepted ifr
  pub stores : HasNone (IsStoreFault (nodes_of ifr))
  pub questions : HasNone (IsQuestionFault (nodes_of ifr))

-- The list has no fault, and its forms package of the number can be browsed; its string packages say texts, of which those for the
-- language are shown; the image spells its stores, with which a session begins, at the first form; the DISABLE_IFs that hold over
-- these stores are removed.
pub record Opens (list : List ℕ) (n : ℕ) (image language : List ℕ) (start : State) : Type 0 where
  pub source : Package
  pub found : HasSource list n source
  pub bytes : start.ifr ≡ source.bytes
  pub path : start.path ≡ device_path list
  pub texts : HasTexts list start.spoken
  pub language_is : start.language ≡ chosen start.spoken language
  pub browsable : IsBrowsable start.ifr
  pub stores : SpellsImage (layout_in start.ifr) image start.working
  pub submitted : start.committed ≡ start.working
  pub removed : start.removed ≡ removed_at (nodes_of start.ifr) start.working
  pub others : List ℕ
  pub forms : places (filter is_form (nodes_of start.ifr)) ≡ start.form ∷ others
  pub history : start.history ≡ []
