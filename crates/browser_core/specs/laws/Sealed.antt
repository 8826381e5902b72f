-- Sets of questions that answer commands on them by their own fields alone (own rule).
use Rattle.std.specs.Prelude.{◌≡◌, ℕ, Contains, Some, List, ◌++◌, ⊤}
use Rattle.std.specs.List.{AllByRecursion, flat_map}
use Rattle.ifr_opcodes.specs.Forest.{Node}
use Rattle.ifr_scopes.specs.code.Lists.{statement_node}
use Rattle.ifr_nodes.specs.Nodes.{nodes_of, options, inconsistents, warnings}
use Rattle.hii_varstore.specs.Stores.{StoreMap, shape_of}
use Rattle.hii_questions.specs.Fields.{field_of, question_with}
use Rattle.hii_questions.specs.code.Views.{question_node}
use Rattle.hii_questions.specs.declared.question.Question.{Question}
use Rattle.guard_policy.specs.laws.Support.{around, conditions, support_over}
use Rattle.guard_policy.specs.World.{World}
use Rattle.guard_policy.specs.declared.support.Decision.{Decision}
use Rattle.guard_policy.specs.declared.support.Decision.TheVariants.{Changeable, OptionOpen, Consistent, Warnings}
use Rattle.browser_rules.specs.Script as script
use Rattle.browser_rules.specs.Script.{Command}
use Rattle.browser_core.specs.laws.Bytes.{state_with, answers_to}
use Rattle.session_steps.specs.Opening.{layout_in, Opens}
use Rattle.session_steps.specs.State.{State}
use Rattle.hii_questions.specs.Changes.{field_bytes}

-- ---- on which questions the changes of one depend

-- the conditions that decide of the changes of a question: those around it, those around its options, and its own
abbrev pub deciding : Node → List Node
deciding q = around q ++ (flat_map around (options q) ++ (inconsistents q ++ warnings q))

-- These questions are sealed: with each of them they have all on which its changes depend.
abbrev pub IsSealed : List Node → List ℕ → Type 0
IsSealed ns ids =
    (id behind : ℕ) (q : Node) → Contains ids id → question_with ns id ≡ Some q
    → Contains (support_over ns (deciding q)) behind → Contains ids behind

-- The decision is one of those on a change of the question.
abbrev pub IsOfChange : Node → Decision → Type 0
IsOfChange q (Changeable statement) = statement_node statement ≡ q
IsOfChange q (OptionOpen question value) = question_node question ≡ q
IsOfChange q (Consistent question) = question_node question ≡ q
IsOfChange q (Warnings question) = question_node question ≡ q
IsOfChange q _ = ⊥

-- The conditions of the decisions on a change of a question are among those that decide of its changes.
abbrev pub DecidingHasAll : Type 0
DecidingHasAll =
    (w : World) (q c : Node) (decision : Decision) → IsOfChange q decision
    → Contains (conditions w decision) c → Contains (deciding q) c

-- Each of these is a condition of such a decision.
abbrev pub DecidingHasNoOthers : Type 0
DecidingHasNoOthers =
    (w : World) (question : Question) (c : Node) → Contains (deciding (question_node question)) c
    → (decision : Decision) × IsOfChange (question_node question) decision
    × Contains (conditions w decision) c

-- ---- sessions that hold the same in some questions

-- Two maps of stores hold the same bytes in the fields of these questions.
abbrev pub HoldAlike : List Node → List ℕ → StoreMap → StoreMap → Type 0
HoldAlike ns ids a b =
    (id : ℕ) (q : Node) → Contains ids id → question_with ns id ≡ Some q
    → field_bytes a (field_of ns q) ≡ field_bytes b (field_of ns q)

-- Two sessions over one form set, from which the same was removed and which show the same texts, hold the same in the
-- fields of these questions, as they were last submitted and as commands read them.
pub record AreAlike (ids : List ℕ) (s t : State) : Type 0 where
  pub ifr : s.ifr ≡ t.ifr
  pub removed : s.removed ≡ t.removed
  pub spoken : s.spoken ≡ t.spoken
  pub language : s.language ≡ t.language
  pub committed : HoldAlike (nodes_of s.ifr) ids s.committed t.committed
  pub working : HoldAlike (nodes_of s.ifr) ids s.working t.working

-- The stores of a session are those that its package declares.
pub record IsLaid (s : State) : Type 0 where
  pub committed : shape_of s.committed ≡ layout_in s.ifr
  pub working : shape_of s.working ≡ layout_in s.ifr

-- A session is laid from its opening on.
abbrev pub SessionsAreLaid : Type 0
SessionsAreLaid =
    (list : List ℕ) (n : ℕ) (image language : List ℕ) (start : State) (commands : List Command)
    → Opens list n image language start → IsLaid (state_with start commands)

-- a set, order, text or why of one of these questions, or a discard
abbrev pub IsOn : List ℕ → Command → Type 0
IsOn ids (script.Set id value) = Contains ids id
IsOn ids (script.Order id numbers) = Contains ids id
IsOn ids (script.Text id text) = Contains ids id
IsOn ids (script.Why id) = Contains ids id
IsOn ids script.Discard = ⊤
IsOn ids _ = ⊥

-- Two sessions that hold the same in sealed questions answer all commands on these with the same texts, and hold the same in
-- them afterwards.
abbrev pub SealedQuestionsAnswerAlike : Type 0
SealedQuestionsAnswerAlike =
    (s t : State) (ids : List ℕ) (commands : List Command) → IsLaid s → IsLaid t
    → IsSealed (nodes_of s.ifr) ids → AreAlike ids s t → AllByRecursion (IsOn ids) commands
    → (answers_to s commands ≡ answers_to t commands)
    × AreAlike ids (state_with s commands) (state_with t commands)
