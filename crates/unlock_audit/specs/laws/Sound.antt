-- What opens a question was run.
use Rattle.std.specs.Prelude.{◌≡◌, ℕ, true, false, Some, List, [], ◌∷◌}
use Rattle.browser_rules.specs.Script as script
use Rattle.ifr_opcodes.specs.Fields.{question_id}
use Rattle.hii_varstore.specs.Stores.{StoreMap}
use Rattle.hii_questions.specs.Fields.{Asked}
use Rattle.session_steps.specs.State.{State}
use Rattle.session_steps.specs.Step.{step}
use Rattle.session_steps.specs.declared.reply.Reply.TheVariants.{Accepted}
use Rattle.unlock_audit.specs.Moves.{command}
use Rattle.unlock_audit.specs.declared.moves.Move.{Move}
use Rattle.unlock_audit.specs.Tries.{begun_over, with_written}
use Rattle.unlock_audit.specs.Unlock.{found, unlock, written}

-- Commands are answered with OK, one after the other, and leave this.
abbrev pub AreAnswered : State → List Move → State → Type 0
AreAnswered s [] end = end ≡ s
AreAnswered s (m ∷ list) end =
    ((step s (command m)).reply ≡ Accepted) × AreAnswered (step s (command m)).state list end

-- `why` of the question of an id is answered with OK.
abbrev pub IsOpen : State → ℕ → Type 0
IsOpen s id = (step s (script.Why id)).reply ≡ Accepted

-- The commands of an answer were answered with OK, and then `why` was.
abbrev pub FoundOpens : Type 0
FoundOpens =
    (s : State) (most : ℕ) (q : Asked) (list : List Move) → (unlock s most q).answer ≡ found false list
    → (end : State) × AreAnswered s list end × IsOpen end (question_id q.node.op)

-- They and a `submit` behind them were, and then `why` was in a new run over the stores that these leave.
abbrev pub FoundAgainOpens : Type 0
FoundAgainOpens =
    (s : State) (most : ℕ) (q : Asked) (list : List Move) → (unlock s most q).answer ≡ found true list
    → (end : State) × AreAnswered s list end × ((step end script.Submit).reply ≡ Accepted)
    × IsOpen (begun_over s (step end script.Submit).state.committed) (question_id q.node.op)

-- `why` was answered with OK in a new run over the stores with the field that is written.
abbrev pub WrittenOpens : Type 0
WrittenOpens =
    (s : State) (most : ℕ) (q : Asked) (m : Move) → (unlock s most q).answer ≡ written m
    → (stores : StoreMap) × (with_written s m ≡ Some stores)
    × IsOpen (begun_over s stores) (question_id q.node.op)
