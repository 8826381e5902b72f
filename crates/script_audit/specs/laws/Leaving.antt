-- What the lines of a script leave in a session.
use Rattle.std.specs.Prelude.{◌≡◌, ℕ, ⊤, false, Some, List, [], ◌∷◌}
use Rattle.audit_json.specs.declared.telling.Telling.{Telling}
use Rattle.session_steps.specs.State.{State}
use Rattle.session_steps.specs.Step.{step_line}
use Rattle.session_steps.specs.declared.reply.Reply.TheVariants.{Accepted}
use Rattle.script_audit.specs.Apply.{applied, unsubmitted}
use Rattle.script_audit.specs.Script.{Line, commands_of, is_wide}

-- the state that a session has behind these lines
abbrev pub left_by : State → List Line → State
left_by s [] = s
left_by s (line ∷ lines) = left_by (step_line s line.bytes).state lines

-- Each of them is answered with OK.
abbrev pub AreAccepted : State → List Line → Type 0
AreAccepted s [] = ⊤
AreAccepted s (line ∷ lines) =
    ((step_line s line.bytes).reply ≡ Accepted) × AreAccepted (step_line s line.bytes).state lines

-- What is to be written is what the session leaves of exactly the lines of the script, all of them answered with OK and submitted.
abbrev pub LeavesAllAlone : Type 0
LeavesAllAlone =
    (telling : Telling) (package_place : ℕ) (s left : State) (script : List ℕ)
    → (applied telling package_place s script).left ≡ Some left
    → AreAccepted s (commands_of script) × (left ≡ left_by s (commands_of script)) × (unsubmitted left ≡ [])

-- Where they are, and are submitted, this is to be written.
abbrev pub LeavesAllAnswered : Type 0
LeavesAllAnswered =
    (telling : Telling) (package_place : ℕ) (s : State) (script : List ℕ)
    → is_wide script ≡ false → AreAccepted s (commands_of script)
    → unsubmitted (left_by s (commands_of script)) ≡ []
    → (applied telling package_place s script).left ≡ Some (left_by s (commands_of script))
