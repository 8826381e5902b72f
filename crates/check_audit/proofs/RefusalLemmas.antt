-- When a forms package has no fault, and which of its faults are told.
use Rattle.std.proofs.Common.{◌≡◌, ℕ, true, false, Ok, Err, List, [], ◌∷◌, sym, ap, subst, inl, inr}
use Rattle.std.specs.Prelude.{IfErr, OnOk, Result, is_ok}
use Rattle.std.proofs.lemmas.Bool.{false≢true, true≢false}
use Rattle.hii_bytes.specs.declared.cause.Cause.{Cause}
use Rattle.hii_bytes.specs.declared.cause.Cause.TheVariants.{OutOfMemory}
use Rattle.hii_bytes.specs.declared.cause.Fault.{Fault}
use Rattle.hii_bytes.specs.Faults.{HasNone, IsLeast, Refuses, Then}
use Rattle.hii_bytes.proofs.FaultLemmas.{then_first, then_second, then_none}
use Rattle.ifr_opcodes.specs.Reading.{tree_of}
use Rattle.ifr_nodes.specs.Accepted.{IsAccepted, IsPackageFault}
use Rattle.ifr_nodes.specs.Checked.{IsChecked}
use Rattle.ifr_nodes.specs.Framing.{IsFramingFault}
use Rattle.ifr_nodes.specs.ReferenceFaults.{IsReferenceFault}
use Rattle.ifr_nodes.specs.Structure.{IsStructureFault}
use Rattle.ifr_nodes.specs.Nodes.{nodes_of}
use Rattle.ifr_nodes.proofs.AcceptedLemmas.{accepted_no_fault}
use Rattle.ifr_nodes.proofs.RunLemmas.{none_where_spelled}
use Rattle.hii_varstore.specs.StoreNodes.{IsStoreFault}
use Rattle.hii_questions.specs.Faults.{IsQuestionFault}
use Rattle.package_faults.specs.AllFaults.{AreAll}
use Rattle.package_faults.proofs.AllLemmas as parts
use Rattle.package_faults.proofs.AllLemmas.{first_is_least}
use Rattle.session_steps.specs.Opening.{IsFormSetFault, IsBrowsable}
use Rattle.check_audit.specs.Verdicts.{AreOthers, IsRefusal}
use Rattle.check_audit.specs.declared.verdict.Refusal.{Refusal}

-- the faults of a forms package behind those of the package itself
abbrev Later : List ℕ → Cause → ℕ → Type 0
Later ifr = Then (IsStoreFault (nodes_of ifr)) (IsQuestionFault (nodes_of ifr))

pub browsable_no_fault : (ifr : List ℕ) → IsBrowsable ifr → HasNone (IsFormSetFault ifr)
browsable_no_fault ifr b =
    then_none (IsPackageFault ifr) (Later ifr) (accepted_no_fault ifr b.accepted)
    (then_none (IsStoreFault (nodes_of ifr)) (IsQuestionFault (nodes_of ifr)) b.stores b.questions)

pub refuses_second : (First Second : Cause → ℕ → Type 0) (fault : Fault) → HasNone First → Refuses Second fault → Refuses (Then First Second) fault
refuses_second First Second fault none (inl memory) = inl memory
refuses_second First Second fault none (inr least) = inr (then_second First Second fault none least)

-- ---- which others are told beside the least

-- the least one is told where memory does not fail
pub least_of : (IsFault : Cause → ℕ → Type 0) (fault : Fault) → Refuses IsFault fault → (fault.cause ≡ OutOfMemory → ⊥) → IsLeast IsFault fault
least_of IsFault fault (inl memory) other = absurd (other (ap (λ (f : Fault). f.cause) memory))
least_of IsFault fault (inr least) other = least

pub told_all : (ifr : List ℕ) (r : Refusal) (faults : List Fault) → IsChecked ifr → AreAll (IsFormSetFault ifr) faults → r.fault ∷ r.others.items ≡ faults → IsRefusal ifr r
told_all ifr r faults checked all same =
    let those = subst (AreAll (IsFormSetFault ifr)) (sym same) all in
    (first_is_least (IsFormSetFault ifr) r.fault r.others.items those, inr (checked, those))

pub told_alone : (ifr : List ℕ) (r : Refusal) → (IsChecked ifr → ⊥) → IsLeast (IsPackageFault ifr) r.fault → r.others.items ≡ [] → IsRefusal ifr r
told_alone ifr r unchecked least none = (then_first (IsPackageFault ifr) (Later ifr) r.fault least, inl (unchecked, none))

-- a checked package is refused for its references alone
pub of_references : (ifr : List ℕ) (cause : Cause) (place : ℕ) → IsChecked ifr → IsPackageFault ifr cause place → IsReferenceFault (nodes_of ifr) cause place
of_references ifr cause place checked (inl framing) = absurd (none_where_spelled ifr (tree_of ifr) checked.spelled cause place framing)
of_references ifr cause place checked (inr (_, inl structure)) = absurd (checked.sound cause place structure)
of_references ifr cause place checked (inr (_, inr (_, references))) = references

pub all_references : (ifr : List ℕ) (faults : List Fault) (cause : Cause) (place : ℕ) → IsChecked ifr → IsPackageFault ifr cause place → AreAll (IsReferenceFault (nodes_of ifr)) faults → AreAll (IsFormSetFault ifr) faults
all_references ifr faults cause place checked is all =
    parts.then_first (IsPackageFault ifr) (Later ifr) faults cause place is
    (parts.then_second (IsFramingFault ifr) (Then (IsStructureFault (nodes_of ifr)) (IsReferenceFault (nodes_of ifr))) faults (none_where_spelled ifr (tree_of ifr) checked.spelled)
    (parts.then_second (IsStructureFault (nodes_of ifr)) (IsReferenceFault (nodes_of ifr)) faults checked.sound all))

pub all_stores : (ifr : List ℕ) (faults : List Fault) (cause : Cause) (place : ℕ) → IsAccepted ifr → IsStoreFault (nodes_of ifr) cause place → AreAll (IsStoreFault (nodes_of ifr)) faults → AreAll (IsFormSetFault ifr) faults
all_stores ifr faults cause place a is all =
    parts.then_second (IsPackageFault ifr) (Later ifr) faults (accepted_no_fault ifr a) (parts.then_first (IsStoreFault (nodes_of ifr)) (IsQuestionFault (nodes_of ifr)) faults cause place is all)

pub all_questions : (ifr : List ℕ) (faults : List Fault) → IsAccepted ifr → HasNone (IsStoreFault (nodes_of ifr)) → AreAll (IsQuestionFault (nodes_of ifr)) faults → AreAll (IsFormSetFault ifr) faults
all_questions ifr faults a sound all =
    parts.then_second (IsPackageFault ifr) (Later ifr) faults (accepted_no_fault ifr a) (parts.then_second (IsStoreFault (nodes_of ifr)) (IsQuestionFault (nodes_of ifr)) faults sound all)

-- ---- whether a package is checked

pub of_ok : {T E : Type 0} (r : Result T E) (P : Type 0) → OnOk r P → is_ok r ≡ true → P
of_ok (Ok x) P p ok = p
of_ok (Err e) P p ok = absurd (false≢true ok)

pub of_err : {T E : Type 0} (r : Result T E) (P : E → Type 0) → IfErr r P → is_ok r ≡ false → (e : E) × P e
of_err (Ok x) P p bad = absurd (true≢false bad)
of_err (Err e) P p bad = (e, p)

pub unchecked_framing : (ifr : List ℕ) (fault : Fault) → IsLeast (IsFramingFault ifr) fault → IsChecked ifr → ⊥
unchecked_framing ifr fault least checked = none_where_spelled ifr (tree_of ifr) checked.spelled fault.cause fault.place least.told

pub unchecked_structure : (ifr : List ℕ) (fault : Fault) → IsLeast (IsStructureFault (nodes_of ifr)) fault → IsChecked ifr → ⊥
unchecked_structure ifr fault least checked = checked.sound fault.cause fault.place least.told

-- ---- the pass of which all are told

pub are_references : (ifr : List ℕ) (fault : Fault) (others : List Fault) → IsChecked ifr → IsReferenceFault (nodes_of ifr) fault.cause fault.place → AreOthers ifr fault others → AreAll (IsReferenceFault (nodes_of ifr)) (fault ∷ others)
are_references ifr fault others checked is (inl alone) = absurd (alone.0 checked)
are_references ifr fault others checked is (inr (_, all)) =
    let framed = none_where_spelled ifr (tree_of ifr) checked.spelled in
    let told = fault ∷ others in
    let own : IsPackageFault ifr fault.cause fault.place = inr (framed, inr (checked.sound, is)) in
    parts.of_second (IsStructureFault (nodes_of ifr)) (IsReferenceFault (nodes_of ifr)) told checked.sound
    (parts.of_second (IsFramingFault ifr) (Then (IsStructureFault (nodes_of ifr)) (IsReferenceFault (nodes_of ifr))) told framed (parts.of_first (IsPackageFault ifr) (Later ifr) told fault.cause fault.place own all))

pub are_stores : (ifr : List ℕ) (fault : Fault) (others : List Fault) → IsAccepted ifr → IsStoreFault (nodes_of ifr) fault.cause fault.place → AreOthers ifr fault others → AreAll (IsStoreFault (nodes_of ifr)) (fault ∷ others)
are_stores ifr fault others a is (inl alone) = absurd (alone.0 a.checked)
are_stores ifr fault others a is (inr (_, all)) =
    parts.of_first (IsStoreFault (nodes_of ifr)) (IsQuestionFault (nodes_of ifr)) (fault ∷ others) fault.cause fault.place is
    (parts.of_second (IsPackageFault ifr) (Later ifr) (fault ∷ others) (accepted_no_fault ifr a) all)

pub are_questions : (ifr : List ℕ) (fault : Fault) (others : List Fault) → IsAccepted ifr → HasNone (IsStoreFault (nodes_of ifr)) → AreOthers ifr fault others → AreAll (IsQuestionFault (nodes_of ifr)) (fault ∷ others)
are_questions ifr fault others a sound (inl alone) = absurd (alone.0 a.checked)
are_questions ifr fault others a sound (inr (_, all)) =
    parts.of_second (IsStoreFault (nodes_of ifr)) (IsQuestionFault (nodes_of ifr)) (fault ∷ others) sound
    (parts.of_second (IsPackageFault ifr) (Later ifr) (fault ∷ others) (accepted_no_fault ifr a) all)
