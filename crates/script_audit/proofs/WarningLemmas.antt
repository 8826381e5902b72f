-- What a session answers where a question takes a value.
use Rattle.std.proofs.Common.{◌≡◌, ℕ, Option, Some, None, Result, Ok, Err, List, refl}
use Rattle.std.specs.Prelude.{◌++◌}
use Rattle.std.specs.List.{flat_map}
use Rattle.ifr_opcodes.specs.Forest.{Node}
use Rattle.ifr_nodes.specs.Nodes.{nodes_of}
use Rattle.hii_varstore.specs.Stores.{StoreMap}
use Rattle.hii_values.specs.Inputs.{Offer}
use Rattle.hii_values.specs.declared.denial.DenialKind.{DenialKind}
use Rattle.hii_questions.specs.Changes.{with_field}
use Rattle.hii_questions.specs.Fields.{field_of}
use Rattle.hii_questions.specs.Fits.{fits, values_offered}
use Rattle.guard_policy.specs.Policy.{fixed}
use Rattle.guard_policy.specs.declared.denial.Denial.{Denial}
use Rattle.session_steps.specs.State.{State, texts, world_of}
use Rattle.session_steps.specs.Step.{Outcome, set_fitting, set_unless_fixed, set_unless_forbidden, value_denial}
use Rattle.session_steps.specs.Texts.{ok_text, warning_line}
use Rattle.session_steps.specs.declared.reply.Reply.TheVariants.{Accepted, Denied}
use Rattle.script_audit.specs.Walk.{seen, warned_of}
use Rattle.script_audit.specs.laws.Warnings.{AnswersWarnings}

-- what is said of an answer
abbrev Answers : State → Node → Outcome → Type 0
Answers s q o = o.reply ≡ Accepted → o.text ≡ ok_text ++ flat_map (warning_line (texts s)) (warned_of (seen o.state) (Some q))

no_denial : {denial : Denial} → Denied denial ≡ Accepted → ⊥
no_denial h = cc

unforbidden : (s : State) (new : StoreMap) (q : Node) (denial : Option Denial) → Answers s q (set_unless_forbidden s new q denial)
unforbidden s new q (Some denial) e = absurd (no_denial e)
unforbidden s new q None e = refl

fitting : (s : State) (q : Node) (values : List ℕ) (fit : Result (List ℕ) DenialKind) → Answers s q (set_fitting s q values fit)
fitting s q values (Err why) e = absurd (no_denial e)
fitting s q values (Ok bytes) e =
    let new = with_field s.working (field_of (nodes_of s.ifr) q) bytes in
    unforbidden s new q (value_denial (world_of s) new q values) e

unfixed : (s : State) (q : Node) (offer : Offer) (denial : Option Denial) → Answers s q (set_unless_fixed s q offer denial)
unfixed s q offer (Some denial) e = absurd (no_denial e)
unfixed s q offer None e = fitting s q (values_offered q offer) (fits (nodes_of s.ifr) q offer) e

pub answers_warnings : AnswersWarnings
answers_warnings s None offer e = absurd (no_denial e)
answers_warnings s (Some q) offer e = unfixed s q offer (fixed (world_of s) q) e
