-- What is told of an answer beside itself, as the code holds it.
use Rattle.std.specs.Prelude.{◌≡◌, ◌==◌, ⊤, option_map, codes}
use Rattle.std.specs.List.{find}
use Rattle.ifr_nodes.specs.Guards.{guards}
use Rattle.hii_questions.specs.Fields.{Asked}
use Rattle.condition_text.specs.code.Conditions.{words_of}
use Rattle.question_audit.specs.ScriptValues.{behind}
use Rattle.session_steps.specs.State.{State}
use Rattle.unlock_audit.specs.Told.{short_condition}
use Rattle.unlock_audit.specs.Tries.{with_written}
use Rattle.unlock_audit.specs.Unlock.{Answer, never, written}
use Rattle.unlock_audit.specs.declared.words.Details.{Details}

-- They are those of an answer to a question.
abbrev pub AreDetails : State → Asked → Answer → Details → Type 0
AreDetails s q (never reason) d =
    behind (codes ": ") (option_map words_of d.condition)
    ≡ short_condition (find (λ g. g.place == reason.place) (guards q.node))
AreDetails s q (written m) d = d.written ≡ with_written s m
AreDetails s q _ d = ⊤
