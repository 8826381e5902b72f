-- By which faults a session is refused.
use Rattle.std.proofs.Common.{◌≡◌, ◌⊎◌, ◌↔◌, ◌<◌, ◌≤◌, ℕ, List, Some, subst, sym, inl, inr}
use Rattle.browser_rules.specs.Faults.{list_faults}
use Rattle.browser_rules.specs.Packages.{Package, forms_package}
use Rattle.hii_bytes.specs.Cause.{number_of}
use Rattle.hii_bytes.specs.Faults.{HasNone, IsLeast, Then}
use Rattle.hii_bytes.specs.declared.cause.Cause.{Cause}
use Rattle.hii_bytes.specs.declared.cause.Fault.{Fault}
use Rattle.hii_bytes.proofs.ChapterFaultLemmas.{none_among}
use Rattle.hii_bytes.proofs.FaultLemmas.{then_first, then_second}
use Rattle.hii_varstore.specs.Faults.{IsImageFault}
use Rattle.session_steps.specs.Opening.{HasSource, IsBrowsingFault, IsFormSetFault, IsOpenFault, IsSourceFault, IsTextFault, forms_bytes, layout_in}
use Rattle.session_steps.proofs.SourceLemmas.{no_source_fault, source_bytes}
use Rattle.check_audit.specs.Verdicts.{IsListFault}

-- a fault of two parts is one of three
two_of_three : (First Second Third : Cause → ℕ → Type 0) (fault : Fault) → IsLeast (Then First Second) fault → IsLeast (Then First (Then Second Third)) fault
two_of_three First Second Third fault least = record { told = go fault.cause fault.place least.told; least = λ cause place is. below cause place is }
  where
    go : (cause : Cause) (place : ℕ) → Then First Second cause place → Then First (Then Second Third) cause place
    go cause place (inl first) = inl first
    go cause place (inr (none, second)) = inr (none, inl second)

    below : (cause : Cause) (place : ℕ) → Then First (Then Second Third) cause place → (fault.place < place) ⊎ ((fault.place ≡ place) × (number_of fault.cause ≤ number_of cause))
    below cause place (inl first) = least.least cause place (inl first)
    below cause place (inr (none, inl second)) = least.least cause place (inr (none, second))
    below cause place (inr (none, inr (other, third))) = absurd (neither none other least.told)
      where
        neither : HasNone First → HasNone Second → Then First Second fault.cause fault.place → ⊥
        neither no_first no_second (inl first) = no_first fault.cause fault.place first
        neither no_first no_second (inr (_, second)) = no_second fault.cause fault.place second

pub list_least : (list image : List ℕ) (fault : Fault) → IsLeast (IsListFault list) fault → IsLeast (IsOpenFault list 1 image) fault
list_least list image fault least = two_of_three (IsSourceFault list 1) (IsTextFault list) (IsBrowsingFault (forms_bytes list 1) image) fault least

-- a list without a fault
no_first : (list : List ℕ) → HasNone (IsListFault list) → HasNone (IsSourceFault list 1)
no_first list none = λ cause place is. none cause place (inl is)

no_text : (list : List ℕ) → HasNone (IsListFault list) → HasNone (IsTextFault list)
no_text list none = λ cause place is. none cause place (inr (no_first list none, is))

has_source : (list : List ℕ) (n : ℕ) (source : Package) → HasNone (IsListFault list) → forms_package list n ≡ Some source → HasSource list n source
has_source list n source none found = ((none_among (list_faults list)).1 (λ cause place is. no_first list none cause place (inl is)), found)

pub package_least : (list : List ℕ) (n : ℕ) (source : Package) (image : List ℕ) (fault : Fault) → HasNone (IsListFault list) → forms_package list n ≡ Some source → IsLeast (IsFormSetFault source.bytes) fault → IsLeast (IsOpenFault list n image) fault
package_least list n source image fault none found least =
    let has = has_source list n source none found in
    let there = subst (λ (ifr : List ℕ). IsLeast (IsFormSetFault ifr) fault) (sym (source_bytes list n source has)) least in
    then_second (IsSourceFault list n) _ fault (no_source_fault list n source has)
    (then_second (IsTextFault list) (IsBrowsingFault (forms_bytes list n) image) fault (no_text list none)
    (then_first (IsFormSetFault (forms_bytes list n)) (IsImageFault (layout_in (forms_bytes list n)) image) fault there))

pub image_alone : (list : List ℕ) (n : ℕ) (source : Package) (image : List ℕ) (cause : Cause) (place : ℕ) → HasNone (IsListFault list) → forms_package list n ≡ Some source → HasNone (IsFormSetFault source.bytes)
    → (IsOpenFault list n image cause place ↔ IsImageFault (layout_in source.bytes) image cause place)
image_alone list n source image cause place none found good =
    let has = has_source list n source none found in
    let same = source_bytes list n source has in
    let whole = subst (λ (ifr : List ℕ). HasNone (IsFormSetFault ifr)) (sym same) good in (
      λ is. subst (λ (ifr : List ℕ). IsImageFault (layout_in ifr) image cause place) same (go has whole is),
      λ is. inr (no_source_fault list n source has, inr (no_text list none, inr (whole, subst (λ (ifr : List ℕ). IsImageFault (layout_in ifr) image cause place) (sym same) is))),
    )
  where
    go : HasSource list n source → HasNone (IsFormSetFault (forms_bytes list n)) → IsOpenFault list n image cause place → IsImageFault (layout_in (forms_bytes list n)) image cause place
    go has whole (inl first) = absurd (no_source_fault list n source has cause place first)
    go has whole (inr (_, inl text)) = absurd (no_text list none cause place text)
    go has whole (inr (_, inr (_, inl formset))) = absurd (whole cause place formset)
    go has whole (inr (_, inr (_, inr (_, is)))) = is
