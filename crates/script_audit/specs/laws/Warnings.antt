-- The warnings that are told of a line are those of the session's own answer.
use Rattle.std.specs.Prelude.{◌≡◌, Option, ◌++◌}
use Rattle.std.specs.List.{flat_map}
use Rattle.ifr_opcodes.specs.Forest.{Node}
use Rattle.hii_values.specs.Inputs.{Offer}
use Rattle.session_steps.specs.State.{State, texts}
use Rattle.session_steps.specs.Step.{set_question}
use Rattle.session_steps.specs.Texts.{ok_text, warning_line}
use Rattle.session_steps.specs.declared.reply.Reply.TheVariants.{Accepted}
use Rattle.script_audit.specs.Walk.{seen, warned_of}

-- Where a question takes a value, the session answers OK, and then with a line for each warning that is told.
abbrev pub AnswersWarnings : Type 0
AnswersWarnings =
    (s : State) (q : Option Node) (offer : Offer) → (set_question s q offer).reply ≡ Accepted
    → (set_question s q offer).text
    ≡ ok_text ++ flat_map (warning_line (texts s)) (warned_of (seen (set_question s q offer).state) q)
