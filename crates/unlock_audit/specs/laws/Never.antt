-- What no command moves stays.
use Rattle.std.specs.Prelude.{◌≡◌, ℕ, true, is_some, List}
use Rattle.std.specs.List.{Contains}
use Rattle.ifr_opcodes.specs.Forest.{Node}
use Rattle.ifr_nodes.specs.Nodes.{is_question, nodes_of}
use Rattle.ifr_nodes.specs.code.Checked.{IsNodeOf}
use Rattle.hii_varstore.specs.Stores.{StoreMap}
use Rattle.hii_questions.specs.Fields.{asked}
use Rattle.guard_policy.specs.Policy.{fixed}
use Rattle.guard_policy.specs.World.{World}
use Rattle.guard_policy.specs.declared.denial.Denial.{Denial}
use Rattle.question_audit.specs.Reasons.{all_reasons}
use Rattle.session_steps.specs.Opening.{Opens}
use Rattle.session_steps.specs.State.{State, world_of, world_with}
use Rattle.unlock_audit.specs.Tries.{begun_over}
use Rattle.unlock_audit.specs.Unlock.{never, unlock}

-- The question may not be changed, and this is among the reasons.
abbrev pub Forbids : World → Node → Denial → Type 0
Forbids w n reason =
    Contains (all_reasons w (asked w.nodes n)) reason × (is_some (fixed w n) ≡ true)

-- Where the answer is `never` its reason forbids the change whatever the stores hold, in this run and in each new one.
abbrev pub NeverOpens : Type 0
NeverOpens =
    (list : List ℕ) (number : ℕ) (image language : List ℕ) (s : State) (most : ℕ) (n : Node) (reason : Denial)
    → Opens list number image language s → IsNodeOf s.ifr n → is_question n ≡ true
    → (unlock s most (asked (nodes_of s.ifr) n)).answer ≡ never reason → (stores : StoreMap)
    → Forbids (world_with s stores) n reason × Forbids (world_of (begun_over s stores)) n reason
