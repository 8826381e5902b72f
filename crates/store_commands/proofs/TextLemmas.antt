-- The texts from which defaults are taken.
use Rattle.std.proofs.Common.{◌≡◌, ℕ, List, [], Option, Some, None, true, false, inl, inr, subst}
use Rattle.std.specs.Prelude.{is_some}
use Rattle.browser_rules.specs.Faults.{string_faults}
use Rattle.browser_rules.specs.Strings.{Spoken}
use Rattle.hii_bytes.specs.Faults.{HasNone, IsLeast, Refuses, RefusesAmong, Then}
use Rattle.hii_bytes.specs.declared.cause.Cause.{Cause}
use Rattle.hii_bytes.specs.declared.cause.Fault.{Fault}
use Rattle.hii_bytes.proofs.ChapterFaultLemmas.{are_among, none_among, same_refusal}
use Rattle.hii_bytes.proofs.FaultLemmas.{then_first, then_second}
use Rattle.session_steps.proofs.SourceLemmas.{no_source_fault}
use Rattle.hii_bytes.specs.Faults.{IsAmong}
use Rattle.browser_rules.specs.Packages.{Package}
use Rattle.session_steps.specs.Opening.{HasSource, IsFormSetFault, IsSourceFault, IsTextFault, forms_bytes}
use Rattle.store_audit.specs.Declaring.{IsDeclaredFault}
use Rattle.store_commands.specs.Defaulting.{IsFaultWith}
use Rattle.store_commands.specs.code.Defaulting.{AreTexts}

-- a part without faults between two others
module _ (First Mid Last : Cause → ℕ → Type 0) (none : HasNone Mid) where
  put_in : (c : Cause) (p : ℕ) → Then First Last c p → Then First (Then Mid Last) c p
  put_in c p (inl first) = inl first
  put_in c p (inr (free, last)) = inr (free, inr (none, last))

  taken_out : (c : Cause) (p : ℕ) → Then First (Then Mid Last) c p → Then First Last c p
  taken_out c p (inl first) = inl first
  taken_out c p (inr (free, inl mid)) = absurd (none c p mid)
  taken_out c p (inr (free, inr (unmet, last))) = inr (free, last)

  refuses_with : (fault : Fault) → Refuses (Then First Last) fault → Refuses (Then First (Then Mid Last)) fault
  refuses_with fault (inl memory) = inl memory
  refuses_with fault (inr l) = inr record { told = put_in fault.cause fault.place l.told; least = λ c p is. l.least c p (taken_out c p is) }

  none_with : HasNone (Then First Last) → HasNone (Then First (Then Mid Last))
  none_with free c p is = free c p (taken_out c p is)

no_text : (list : List ℕ) → string_faults list ≡ [] → HasNone (IsTextFault list)
no_text list free = (none_among (string_faults list)).0 free

pub declared_refuses : (defaults : Option ℕ) (list : List ℕ) (n : ℕ) (texts : Option (List Spoken)) (fault : Fault) → AreTexts defaults list texts
    → Refuses (IsDeclaredFault list n) fault → Refuses (IsFaultWith defaults list n) fault
declared_refuses None list n texts fault are r = r
declared_refuses (Some class) list n None fault are r = absurd are
declared_refuses (Some class) list n (Some spoken) fault are r = refuses_with (IsSourceFault list n) (IsTextFault list) (IsFormSetFault (forms_bytes list n)) (no_text list are.0) fault r

pub declared_sound : (defaults : Option ℕ) (list : List ℕ) (n : ℕ) (texts : Option (List Spoken)) → AreTexts defaults list texts
    → HasNone (IsDeclaredFault list n) → HasNone (IsFaultWith defaults list n)
declared_sound None list n texts are free = free
declared_sound (Some class) list n None are free = absurd are
declared_sound (Some class) list n (Some spoken) are free = none_with (IsSourceFault list n) (IsTextFault list) (IsFormSetFault (forms_bytes list n)) (no_text list are.0) free

-- ---- which part refuses

pub source_refuses : (class : ℕ) (list : List ℕ) (n : ℕ) (fault : Fault) → IsLeast (IsSourceFault list n) fault → Refuses (IsFaultWith (Some class) list n) fault
source_refuses class list n fault least = inr (then_first (IsSourceFault list n) (Then (IsTextFault list) (IsFormSetFault (forms_bytes list n))) fault least)

pub texts_refuse : (class : ℕ) (list seen : List ℕ) (n : ℕ) (source : Package) (fault : Fault) → seen ≡ list → HasSource list n source → RefusesAmong (string_faults seen) fault
    → Refuses (IsFaultWith (Some class) list n) fault
texts_refuse class list seen n source fault same found r =
    go (subst (λ (bytes : List ℕ). Refuses (IsTextFault bytes) fault) same ((same_refusal (string_faults seen) (IsAmong (string_faults seen)) fault (are_among (string_faults seen))).0 r))
  where
    go : Refuses (IsTextFault list) fault → Refuses (IsFaultWith (Some class) list n) fault
    go (inl memory) = inl memory
    go (inr least) =
        inr (then_second (IsSourceFault list n) (Then (IsTextFault list) (IsFormSetFault (forms_bytes list n))) fault (no_source_fault list n source found)
        (then_first (IsTextFault list) (IsFormSetFault (forms_bytes list n)) fault least))

pub with_some : (defaults : Option ℕ) (list : List ℕ) (n : ℕ) (fault : Fault) → is_some defaults ≡ true
    → ((class : ℕ) → Refuses (IsFaultWith (Some class) list n) fault) → Refuses (IsFaultWith defaults list n) fault
with_some None list n fault bad r = let wrong : false ≡ true = bad in cc
with_some (Some class) list n fault some r = r class
