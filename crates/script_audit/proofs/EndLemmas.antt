-- How the run of a script ends.
use Rattle.std.proofs.Common.{◌≡◌, Bool, true, false, Some, None, List, [], ◌∷◌, ◌++◌, ℕ, codes, refl, ap, ◌∙◌}
use Rattle.std.specs.Prelude.{filter}
use Rattle.std.proofs.lemmas.Bool.{cond-true, cond-false}
use Rattle.hii_varstore.specs.Stores.{StoreMap}
use Rattle.hii_questions.specs.Fields.{Asked}
use Rattle.audit_json.specs.declared.telling.Telling.{Telling}
use Rattle.session_steps.specs.State.{State}
use Rattle.script_audit.specs.Apply.{applied, changes_told, end_of, is_settled, unsubmitted, unsubmitted_told, walked}
use Rattle.script_audit.specs.Because.{stop_told}
use Rattle.script_audit.specs.Script.{commands_of, is_wide}
use Rattle.script_audit.specs.Told.{error_told}
use Rattle.script_audit.specs.Walk.{Stop, Walk, seen, walk}

pub settled_end : (t : Telling) (first : StoreMap) (s : State) (qs : List Asked) → is_settled qs ≡ true → end_of t first s qs ≡ record { told = changes_told t (seen s) first s.committed; left = Some s }
settled_end t first s [] e = refl
settled_end t first s (q ∷ qs) e = absurd cc

pub unsettled_end : (t : Telling) (first : StoreMap) (s : State) (qs : List Asked) → is_settled qs ≡ false → end_of t first s qs ≡ record { told = unsubmitted_told t qs; left = None }
unsettled_end t first s [] e = absurd cc
unsettled_end t first s (q ∷ qs) e = refl

-- a question that differs is among those that do
pub unsettled : (test : Asked → Bool) (left rest : List Asked) (q : Asked) → left ≡ q ∷ rest → test q ≡ true → is_settled (filter test left) ≡ false
unsettled test left rest q e is = ap (λ (l : List Asked). is_settled (filter test l)) e ∙ ap is_settled (cond-true (test q) _ _ is)

pub same_settled : (test : Asked → Bool) (left rest : List Asked) (q : Asked) → left ≡ q ∷ rest → test q ≡ false → is_settled (filter test left) ≡ is_settled (filter test rest)
same_settled test left rest q e not = ap (λ (l : List Asked). is_settled (filter test l)) e ∙ ap is_settled (cond-false (test q) _ _ not)

-- ---- a whole run

pub wide_applied : (t : Telling) (place : ℕ) (s : State) (script : List ℕ) → is_wide script ≡ true
    → applied t place s script ≡ record { told = error_told t (codes "script: UTF-16, where UTF-8 is wanted"); left = None }
wide_applied t place s script wide = rw wide refl

pub other_applied : (t : Telling) (place : ℕ) (s : State) (script : List ℕ) → is_wide script ≡ false → applied t place s script ≡ walked t place s.committed (walk t s (commands_of script))
other_applied t place s script other = rw other refl

-- where all lines are answered with OK
pub run_out : (t : Telling) (place : ℕ) (first : StoreMap) (w : Walk) → w.stop ≡ None
    → walked t place first w ≡ record { told = w.told ++ (end_of t first w.state (unsubmitted w.state)).told; left = (end_of t first w.state (unsubmitted w.state)).left }
run_out t place first w all = rw all refl

-- and where one is not
pub broken_off : (t : Telling) (place : ℕ) (first : StoreMap) (w : Walk) (p : Stop) → w.stop ≡ Some p → walked t place first w ≡ record { told = w.told ++ stop_told t place (seen w.state) p.line p.reply; left = None }
broken_off t place first w p one = rw one refl
