-- Which part of a list refuses it, whatever the image of its stores.
use Rattle.std.proofs.Common.{◌≡◌, ◌⊎◌, ℕ, List, [], subst, inl, inr}
use Rattle.browser_rules.specs.Faults.{string_faults}
use Rattle.hii_bytes.specs.declared.cause.Cause.{Cause}
use Rattle.hii_bytes.specs.declared.cause.Fault.{Fault}
use Rattle.hii_bytes.specs.Faults.{HasNone, IsAmong, Refuses, RefusesAmong, Then}
use Rattle.hii_bytes.proofs.ChapterFaultLemmas.{are_among, none_among, same_refusal}
use Rattle.hii_bytes.proofs.FaultLemmas.{then_first, then_none}
use Rattle.session_steps.specs.Opening.{IsFormSetFault, IsSourceFault, IsTextFault, forms_bytes}
use Rattle.browser_commands.proofs.OpeningLemmas.{refuses_second}
use Rattle.store_audit.specs.Declaring.{IsDeclaredFault}
use Rattle.audit_commands.specs.Opcodes.{IsListFault}

-- where the first part has no fault, what refuses both is of the second
of_second : (First Second : Cause → ℕ → Type 0) (fault : Fault) → HasNone First → Refuses (Then First Second) fault → Refuses Second fault
of_second First Second fault none (inl memory) = inl memory
of_second First Second fault none (inr least) = inr record { told = go least.told; least = λ cause place is. least.least cause place (inr (none, is)) }
  where
    go : First fault.cause fault.place ⊎ (HasNone First × Second fault.cause fault.place) → Second fault.cause fault.place
    go (inl is) = absurd (none fault.cause fault.place is)
    go (inr is) = is.1

no_texts : (list seen : List ℕ) → seen ≡ list → string_faults seen ≡ [] → HasNone (IsTextFault list)
no_texts list seen same sound = subst (λ (bytes : List ℕ). HasNone (IsTextFault bytes)) same ((none_among (string_faults seen)).0 sound)

pub texts_refuse : (list seen : List ℕ) (n : ℕ) (fault : Fault) → seen ≡ list → HasNone (IsSourceFault list n) → RefusesAmong (string_faults seen) fault → Refuses (IsListFault list n) fault
texts_refuse list seen n fault same none r =
    let Forms = IsFormSetFault (forms_bytes list n) in
    let refuses = subst (λ (bytes : List ℕ). Refuses (IsTextFault bytes) fault) same ((same_refusal (string_faults seen) (IsAmong (string_faults seen)) fault (are_among (string_faults seen))).0 r) in
    refuses_second (IsSourceFault list n) (Then (IsTextFault list) Forms) fault none (go refuses)
  where
    go : Refuses (IsTextFault list) fault → Refuses (Then (IsTextFault list) (IsFormSetFault (forms_bytes list n))) fault
    go (inl memory) = inl memory
    go (inr least) = inr (then_first (IsTextFault list) (IsFormSetFault (forms_bytes list n)) fault least)

pub forms_refuse : (list seen : List ℕ) (n : ℕ) (fault : Fault) → seen ≡ list → HasNone (IsSourceFault list n) → string_faults seen ≡ [] → Refuses (IsDeclaredFault list n) fault → Refuses (IsListFault list n) fault
forms_refuse list seen n fault same none sound r =
    let Forms = IsFormSetFault (forms_bytes list n) in
    refuses_second (IsSourceFault list n) (Then (IsTextFault list) Forms) fault none
    (refuses_second (IsTextFault list) Forms fault (no_texts list seen same sound) (of_second (IsSourceFault list n) Forms fault none r))

pub none_refuses : (list seen : List ℕ) (n : ℕ) → seen ≡ list → HasNone (IsSourceFault list n) → string_faults seen ≡ [] → HasNone (IsDeclaredFault list n) → HasNone (IsListFault list n)
none_refuses list seen n same none sound declared =
    let Forms = IsFormSetFault (forms_bytes list n) in
    then_none (IsSourceFault list n) (Then (IsTextFault list) Forms) none
    (then_none (IsTextFault list) Forms (no_texts list seen same sound) (λ cause place is. declared cause place (inr (none, is))))
