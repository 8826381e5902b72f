-- What opens a question that may not be changed (own rule).
use Rattle.std.specs.Prelude.{ℕ, ◌==◌, ◌&&◌, ◌||◌, nat_le, min, not, is_some, Bool, true, false, if◌then◌else◌, Option, Some, None, List, [], length, filter}
use Rattle.std.specs.List.{find, list_any}
use Rattle.ifr_opcodes.specs.Fields.{question_id}
use Rattle.ifr_opcodes.specs.Forest.{Node}
use Rattle.ifr_nodes.specs.Nodes.{nodes_of}
use Rattle.hii_values.specs.declared.denial.DenialKind.{DenialKind}
use Rattle.hii_values.specs.declared.denial.DenialKind.TheVariants.{DisableIf, Locked, Outside, ReadOnly}
use Rattle.hii_questions.specs.Fields.{Asked, questions}
use Rattle.guard_policy.specs.Policy.{fixed, is_never_changed}
use Rattle.guard_policy.specs.World.{World}
use Rattle.guard_policy.specs.declared.denial.Denial.{Denial}
use Rattle.question_audit.specs.QuestionLines.{is_constant}
use Rattle.question_audit.specs.Reasons.{all_reasons}
use Rattle.session_steps.specs.State.{State, world_of}
use Rattle.unlock_audit.specs.Asking.{asking}
use Rattle.unlock_audit.specs.Moves.{moves}
use Rattle.unlock_audit.specs.Tries.{Try, commands, is_answered, longer, made, opens, write}
use Rattle.unlock_audit.specs.declared.moves.Move.{Move}

pub data Answer : Type 0 where
  -- it may be changed
  opened : Answer
  -- no command opens it, by this reason
  never : (reason : Denial) → Answer
  -- these commands open it, in this run or, behind a `submit`, in a new one
  found : (again : Bool) (list : List Move) → Answer
  -- a field that is written opens it in a new run
  written : (move : Move) → Answer
  -- nothing that was tried opens it: as many as may be tried; all, and some command was answered with OK; all, and none was
  more : Answer
  none : Answer
  driver : Answer

-- ---- reasons

-- no command takes it away: a LOCKED, a flag, a missing value, a condition that asks no question
abbrev pub is_of_opcode : DenialKind → Bool
is_of_opcode Locked = true
is_of_opcode ReadOnly = true
is_of_opcode Outside = true
is_of_opcode _ = false

abbrev pub is_final : List Node → Node → Denial → Bool
is_final ns n reason = is_of_opcode reason.kind || is_constant ns n (Some reason)

-- the first such, in the order of the policy
abbrev pub final_reason : State → Asked → Option Denial
final_reason s q = find (is_final (nodes_of s.ifr) q.node) (all_reasons (world_of s) q)

-- A DISABLE_IF that was removed stays so in this run.
abbrev pub is_removal : Denial → Bool
is_removal reason = is_disabling reason.kind
  where
    is_disabling : DenialKind → Bool
    is_disabling DisableIf = true
    is_disabling _ = false

abbrev pub needs_new_run : State → Asked → Bool
needs_new_run s q = list_any is_removal (all_reasons (world_of s) q)

-- ---- the answer

pub record Unlock : Type 0 where
  pub verdict : Option Denial
  pub answer : Answer
  -- the ids that its conditions ask
  pub ids : List ℕ
  pub tried : ℕ

abbrev pub unfound : State → List Move → Bool → Answer
unfound s moves is_reached =
    if is_reached then more else if list_any (is_answered s) (longer moves []) then none else driver

abbrev pub answer_by : Bool → Try → Answer
answer_by again (commands list) = found again list
answer_by again (write m) = written m

abbrev pub answer_with : Bool → Answer → Option Try → Answer
answer_with again otherwise None = otherwise
answer_with again otherwise (Some opening) = answer_by again opening

-- the first try that opens it
abbrev pub searched : State → ℕ → Asked → Denial → List ℕ → List Move → Unlock
searched s most q verdict ids moves =
    let id = question_id q.node.op in
    let again = needs_new_run s q in
    let its = made again s id most moves in
    record {
      verdict = Some verdict;
      answer = answer_with again (unfound s moves (nat_le most (length its))) (find (opens again s id) its);
      ids = ids;
      tried = length its;
    }

abbrev pub unlock_unless : State → ℕ → Asked → Denial → Option Denial → Unlock
unlock_unless s most q verdict (Some reason) =
    record { verdict = Some verdict; answer = never reason; ids = []; tried = 0 }
unlock_unless s most q verdict None =
    let a = asking (nodes_of s.ifr) q.node in searched s most q verdict a.ids (moves (nodes_of s.ifr) a)

abbrev pub unlock_by : State → ℕ → Asked → Option Denial → Unlock
unlock_by s most q None = record { verdict = None; answer = opened; ids = []; tried = 0 }
unlock_by s most q (Some verdict) = unlock_unless s most q verdict (final_reason s q)

-- what opens a question, by so many tries at most
abbrev pub unlock : State → ℕ → Asked → Unlock
unlock s most q = unlock_by s most q (fixed (world_of s) q.node)

-- ---- those of a form set

-- 4,096 tries for a question, and 65,536 for all
abbrev pub most_tries : ℕ → ℕ
most_tries left = min 4096 left

abbrev pub all_tries : ℕ
all_tries = 65536

-- a question with an id that may not be changed, where commands could
abbrev pub is_asked_over : World → Asked → Bool
is_asked_over w q =
    not (question_id q.node.op == 0) && not (is_never_changed q) && is_some (fixed w q.node)

abbrev pub asked_questions : State → List Asked
asked_questions s = filter (is_asked_over (world_of s)) (questions (nodes_of s.ifr))
