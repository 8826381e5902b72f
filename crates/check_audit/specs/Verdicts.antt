-- What is found of a forms package: how much it has, or its least fault and the others of the same pass (own rule; UEFI 2.8, 33.3.8
-- Forms Package).
use Rattle.std.specs.Prelude.{◌≡◌, ◌⊎◌, ℕ, Bool, true, false, List, [], ◌∷◌, filter, length}
use Rattle.browser_rules.specs.Strings.{Spoken}
use Rattle.hii_bytes.specs.Faults.{HasNone, IsLeast, Then}
use Rattle.hii_bytes.specs.declared.cause.Cause.{Cause}
use Rattle.hii_bytes.specs.declared.cause.Fault.{Fault}
use Rattle.ifr_nodes.specs.Checked.{IsChecked}
use Rattle.ifr_nodes.specs.Nodes.{nodes_of, is_form, is_store}
use Rattle.hii_questions.specs.Fields.{questions}
use Rattle.package_faults.specs.AllFaults.{AreAll}
use Rattle.session_steps.specs.Opening.{IsFormSetFault, IsSourceFault, IsTextFault}
use Rattle.check_audit.specs.Lacks.{Lack}
use Rattle.check_audit.specs.Warnings.{AreWarnings}
use Rattle.check_audit.specs.declared.verdict.Counts.{Counts}
use Rattle.check_audit.specs.declared.verdict.Refusal.{Refusal}
use Rattle.check_audit.specs.declared.verdict.Verdict.{Verdict}
use Rattle.check_audit.specs.declared.verdict.Verdict.TheVariants.{Good, Refused}

-- the faults of a list for which none of its forms packages is looked at: of its packages, then that it has no forms package, then
-- of its string packages
abbrev pub IsListFault : List ℕ → Cause → ℕ → Type 0
IsListFault list = Then (IsSourceFault list 1) (IsTextFault list)

-- how many forms, questions and stores a forms package has
abbrev pub counts_of : List ℕ → Counts
counts_of ifr = record {
  forms = length (filter is_form (nodes_of ifr));
  questions = length (questions (nodes_of ifr));
  stores = length (filter is_store (nodes_of ifr));
}

-- Which others are told beside the least fault: none of a package whose framing or nodes by themselves have one (20 to 31); of any other
-- all of the first pass that has one: over its references (32, 33, 39, 40), its stores (34) or its questions (35 to 38).
abbrev pub AreOthers : List ℕ → Fault → List Fault → Type 0
AreOthers ifr least others =
    ((IsChecked ifr → ⊥) × (others ≡ []))
    ⊎ (IsChecked ifr × AreAll (IsFormSetFault ifr) (least ∷ others))

-- This is the least fault of a forms package, whatever the image of its stores, and these are the others.
abbrev pub IsRefusal : List ℕ → Refusal → Type 0
IsRefusal ifr r = IsLeast (IsFormSetFault ifr) r.fault × AreOthers ifr r.fault r.others.items

-- A forms package has no fault of its own, this much and these warnings; or it is refused.
abbrev pub IsVerdict : List Spoken → List Lack → List ℕ → Verdict → Type 0
IsVerdict spoken lacks ifr (Good good) =
    HasNone (IsFormSetFault ifr) × (good.counts ≡ counts_of ifr) × AreWarnings spoken lacks ifr good.warnings.items
IsVerdict spoken lacks ifr (Refused refusal) = IsRefusal ifr refusal

abbrev pub is_good : Verdict → Bool
is_good (Good good) = true
is_good (Refused refusal) = false
