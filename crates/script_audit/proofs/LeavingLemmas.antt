-- What is left of a script.
use Rattle.std.proofs.Common.{◌≡◌, ℕ, true, Option, Some, None, List, [], ◌∷◌, refl, sym, ap, subst, ◌∙◌, inl, inr}
use Rattle.std.proofs.lemmas.Bool.{cases_Bool}
use Rattle.hii_varstore.specs.Stores.{StoreMap}
use Rattle.hii_questions.specs.Fields.{Asked}
use Rattle.audit_json.specs.declared.telling.Telling.{Telling}
use Rattle.session_steps.specs.State.{State}
use Rattle.session_steps.specs.Step.{step_line}
use Rattle.session_steps.specs.declared.reply.Reply.{Reply}
use Rattle.session_steps.specs.declared.reply.Reply.TheVariants.{Accepted, Denied, Refused}
use Rattle.script_audit.specs.Apply.{Applied, end_of, ended, unsubmitted}
use Rattle.script_audit.specs.Script.{Line, commands_of, is_wide}
use Rattle.script_audit.specs.Walk.{Stop, is_accepted, walk}
use Rattle.script_audit.specs.laws.Leaving.{AreAccepted, LeavesAllAlone, LeavesAllAnswered, left_by}
use Rattle.script_audit.proofs.EndLemmas.{other_applied, run_out}

accepted_is : (reply : Reply) → is_accepted reply ≡ true → reply ≡ Accepted
accepted_is Accepted e = refl
accepted_is (Denied denial) e = absurd cc
accepted_is (Refused cause) e = absurd cc

-- a walk that ends with the lines has run all of them
walked_all : (t : Telling) (s : State) (lines : List Line) → (walk t s lines).stop ≡ None → AreAccepted s lines × ((walk t s lines).state ≡ left_by s lines)
walked_all t s [] e = (tt, refl)
walked_all t s (line ∷ lines) e = elim (cases_Bool (is_accepted (step_line s line.bytes).reply)) [
  | inl is ↦
      let later = walked_all t (step_line s line.bytes).state lines (rw is at e) in
      rw is ((accepted_is (step_line s line.bytes).reply is, later.0), later.1)
  | inr not ↦ absurd (none (rw not at e))
]
  where
    none : {p : Stop} → Some p ≡ None → ⊥
    none h = cc

-- at the end of the lines nothing is left to be submitted
end_is : (t : Telling) (first : StoreMap) (s left : State) (qs : List Asked) → (end_of t first s qs).left ≡ Some left → (s ≡ left) × (qs ≡ [])
end_is t first s left [] e = let same : s ≡ left = cc in (same, refl)
end_is t first s left (q ∷ qs) e = absurd cc

ended_is : (t : Telling) (place : ℕ) (first : StoreMap) (s left : State) (stop : Option Stop) → (ended t place first s stop).left ≡ Some left → (stop ≡ None) × (s ≡ left) × (unsubmitted s ≡ [])
ended_is t place first s left None e = let its = end_is t first s left (unsubmitted s) e in (refl, its.0, its.1)
ended_is t place first s left (Some stop) e = absurd cc

pub leaves_all_alone : LeavesAllAlone
leaves_all_alone t place s left script e = elim (cases_Bool (is_wide script)) [
  | inl wide ↦ absurd (none (rw wide at e))
  | inr other ↦
      let w = walk t s (commands_of script) in
      let its = ended_is t place s.committed w.state left w.stop (rw other at e) in
      let all = walked_all t s (commands_of script) its.0 in
      (all.0, sym its.1 ∙ all.1, subst (λ (u : State). unsubmitted u ≡ []) its.1 its.2)
]
  where
    none : ◌≡◌ {A = Option State} None (Some left) → ⊥
    none h = cc

-- lines that are all answered with OK are all run
all_walked : (t : Telling) (s : State) (lines : List Line) → AreAccepted s lines → ((walk t s lines).stop ≡ None) × ((walk t s lines).state ≡ left_by s lines)
all_walked t s [] all = (refl, refl)
all_walked t s (line ∷ lines) all =
    let later = all_walked t (step_line s line.bytes).state lines all.1 in
    let is : is_accepted (step_line s line.bytes).reply ≡ true = ap is_accepted all.0 in
    rw is later

pub leaves_all_answered : LeavesAllAnswered
leaves_all_answered t place s script other all settled =
    let w = walk t s (commands_of script) in
    let end = left_by s (commands_of script) in
    let walked_all = all_walked t s (commands_of script) all in
    ap (λ (a : Applied). a.left) (other_applied t place s script other ∙ run_out t place s.committed w walked_all.0)
    ∙ ap (λ (u : State). (end_of t s.committed u (unsubmitted u)).left) walked_all.1 ∙ ap (λ (qs : List Asked). (end_of t s.committed end qs).left) settled
