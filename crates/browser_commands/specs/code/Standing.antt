-- What holds of a session at all times, and what the steps of a command come to.
use Rattle.std.specs.Prelude.{◌≡◌, ℕ, Bool, true, false, ◌<◌, ◌≤◌, ◌^◌, All, List, [], ◌++◌, length, Option, Some, None, Result, Ok, Err}
use Rattle.browser_rules.specs.Configuration.{Header, Block}
use Rattle.config_text.specs.Written.{AreInside}
use Rattle.ifr_opcodes.specs.Forest.{Node}
use Rattle.ifr_nodes.specs.code.Checked.{IsNodeOf, has_form}
use Rattle.ifr_scopes.specs.code.Lists.{form_node}
use Rattle.ifr_scopes.specs.declared.form.Form.{Form}
use Rattle.ifr_nodes.specs.Nodes.{nodes_of, is_question}
use Rattle.hii_varstore.specs.code.Table.{AreBuffers}
use Rattle.hii_varstore.specs.Stores.{StoreMap, shape_of}
use Rattle.hii_values.specs.Inputs.{Offer}
use Rattle.hii_values.specs.declared.input.Input.{Input}
use Rattle.hii_questions.specs.Fields as fields
use Rattle.hii_questions.specs.code.Offers.{IsGiven}
use Rattle.hii_questions.specs.code.Survey.{Survey}
use Rattle.hii_questions.specs.code.Views.{question_node, question_view}
use Rattle.hii_questions.specs.declared.question.Question.{Question}
use Rattle.guard_policy.specs.Policy.{unsubmitted}
use Rattle.guard_policy.specs.World.{world_over}
use Rattle.guard_policy.specs.code.Answers.{unless}
use Rattle.guard_policy.specs.declared.denial.Denial.{Denial}
use Rattle.session_steps.specs.Configuration.{store_named}
use Rattle.kept_conditions.specs.Kept.{KeptMap}
use Rattle.session_steps.specs.Renewed.{Shown, Write, field_write, field_writes, named_if, pressed_if, route_writes}
use Rattle.session_steps.specs.State.{State}
use Rattle.browser_commands.specs.code.Counting.{counted_all}
use Rattle.session_steps.specs.declared.reply.Reply.TheVariants.{Accepted}
use Rattle.session_steps.specs.Opening.{layout_in, IsBrowsable}
use Rattle.session_steps.specs.Texts.{ok_text, count_text}
use Rattle.session_steps.specs.Step.{Outcome, accepted, denied, no_question, warned_text, set_question, take_defaults, taken, row_of_form, form_of, press, show_form, follow, configuration_text, extract_from, route_to}

-- The package can be browsed, the questions, the stores and what is kept of conditions are its own, no two stores have one id,
-- the spare stores are the working ones, these hold what was last submitted unless they were written, there is room for the ids of
-- all questions, the form and those of the history are among its nodes, and what is known of a submission is what decides on it.
pub record Stands (ifr : List ℕ) (varstores : List ℕ) (questions : Survey)
    (committed : StoreMap) (working : KeptMap) (spare : StoreMap) (is_written : Bool) (room : ℕ)
    (form : Node) (history : List ℕ) (removed : List ℕ)
    (submission : Option (Result (Unit {0}) Denial)) : Type 0 where
  pub named_stores : varstores ≡ ifr
  pub buffers : AreBuffers (layout_in ifr).buffers
  pub together : questions.ifr ≡ ifr
  pub browsable : IsBrowsable ifr
  pub submitted : shape_of committed ≡ layout_in ifr
  pub kept : working.ifr ≡ ifr
  pub laid : shape_of working.stores ≡ layout_in ifr
  pub same : spare ≡ working.stores
  pub unwritten : is_written ≡ false → committed ≡ working.stores
  pub told : length (fields.questions (nodes_of ifr)) ≤ room
  pub node : IsNodeOf ifr form
  pub left : All (λ place. has_form ifr place ≡ true) history
  pub asked : (answer : Result (Unit {0}) Denial) → submission ≡ Some answer
      → answer ≡ unless (unsubmitted (world_over (nodes_of ifr) removed working.stores))

-- The question is one of the package.
pub record IsQuestionIn (ifr : List ℕ) (q : fields.Asked) : Type 0 where
  pub asks : is_question q.node ≡ true
  pub own : q ≡ fields.asked (nodes_of ifr) q.node
  pub node : IsNodeOf ifr q.node

-- a command that is carried out without more to tell, or denied
abbrev pub answered : State → Result (Unit {0}) Denial → Outcome
answered s (Ok done) = accepted s ok_text
answered s (Err denial) = denied s denial

-- The question of an id, or that there is none.
abbrev pub Finds : State → ℕ → Result Question Denial → Type 0
Finds s id (Ok question) =
    IsQuestionIn s.ifr (question_view question)
    × (fields.question_with (nodes_of s.ifr) id ≡ Some (question_node question))
Finds s id (Err denial) =
    (fields.question_with (nodes_of s.ifr) id ≡ None) × (denial ≡ no_question)

-- The conditions are counted that some writes touch.
abbrev pub Counts : Shown → List Write → Shown → Type 0
Counts s writes now = now.renewed ≡ counted_all s.renewed (nodes_of s.state.ifr) writes

-- A question has a value, of which it may warn; or why it may not have it, and nothing is changed.
abbrev pub Changes : Shown → Node → Offer → Shown → Result (Unit {0}) Denial → Type 0
Changes s n offer now (Ok done) =
    (set_question s.state (Some n) offer
    ≡ accepted now.state (ok_text ++ warned_text now.state now.state.working n))
    × Counts s (field_write (nodes_of s.state.ifr) n) now
Changes s n offer now (Err denial) =
    (set_question s.state (Some n) offer ≡ denied s.state denial) × (now ≡ s)

-- What a set that is carried out writes; of one that is denied nothing is written here.
abbrev pub written_of : Outcome → Result (Unit {0}) Denial → List ℕ
written_of o (Ok done) = o.text
written_of o (Err denial) = []

-- A question, if it is there, has a value; or why it may not have it, and nothing is changed.
abbrev pub Sets : Shown → Option Node → Offer → Shown → Result (Unit {0}) Denial → Type 0
Sets s q offer now (Ok done) =
    ((set_question s.state q offer).state ≡ now.state)
    × ((set_question s.state q offer).reply ≡ Accepted)
    × Counts s (field_writes (nodes_of s.state.ifr) (named_if q Accepted)) now
Sets s q offer now (Err denial) =
    (set_question s.state q offer ≡ denied s.state denial) × (now ≡ s)

-- The button in a row sets the defaults of a class, or why it does not.
abbrev pub Presses : State → ℕ → Result ℕ Denial → Type 0
Presses s row (Ok class) =
    (press s row ≡ take_defaults s class)
    × (pressed_if s (row_of_form s row (form_of s)) Accepted ≡ (taken s class).questions)
Presses s row (Err denial) = press s row ≡ denied s denial

-- The reference of an id leads to a form, or why it does not.
abbrev pub Leads : State → ℕ → Result Form Denial → Type 0
Leads s id (Ok form) =
    IsNodeOf s.ifr (form_node form)
    × (follow s (fields.question_with (nodes_of s.ifr) id) ≡ show_form s (form_node form))
Leads s id (Err denial) = follow s (fields.question_with (nodes_of s.ifr) id) ≡ denied s denial

-- A request is answered by these bytes of the store that it names, in which its blocks lie.
pub record IsTold (s : State) (request : Header × List Block) (bytes : List ℕ) : Type 0 where
  pub small : length bytes < 2 ^ 16
  pub inside : AreInside request.1 (length bytes)
  pub answer : extract_from s request (store_named (nodes_of s.ifr) s.path request.0)
      ≡ accepted s (configuration_text request bytes)

-- A request is denied.
abbrev pub IsUntold : State → Header × List Block → Denial → Type 0
IsUntold s request denial =
    extract_from s request (store_named (nodes_of s.ifr) s.path request.0) ≡ denied s denial

-- The questions of all blocks of a response are set, or why none is.
abbrev pub Routes : Shown → Header × List Block → Shown → Result ℕ Denial → Type 0
Routes s response now (Ok count) =
    (route_to s.state response.1 (store_named (nodes_of s.state.ifr) s.state.path response.0)
    ≡ accepted now.state (count_text count))
    × Counts s (route_writes s.state response.1
    (store_named (nodes_of s.state.ifr) s.state.path response.0)) now
Routes s response now (Err denial) =
    (route_to s.state response.1 (store_named (nodes_of s.state.ifr) s.state.path response.0)
    ≡ denied s.state denial)
    × (now.state ≡ s.state)
    × Counts s (route_writes s.state response.1
    (store_named (nodes_of s.state.ifr) s.state.path response.0)) now

-- What a caller grants of an input, whatever the field.
abbrev pub IsOffered : Input → Type 0
IsOffered input = (field : Option fields.Field) → IsGiven field input
