-- The questions that a condition asks (own rule).
use Rattle.std.specs.Prelude.{ℕ, Bool, if◌then◌else◌, Option, Some, None, List, [], ◌++◌, filter, codes}
use Rattle.std.specs.List.{flat_map}
use Rattle.ifr_opcodes.specs.Fields.{statement_prompt}
use Rattle.ifr_opcodes.specs.Forest.{Node}
use Rattle.ifr_opcodes.specs.Rows.{is_among}
use Rattle.hii_questions.specs.Answers.{value_of_field}
use Rattle.hii_questions.specs.Fields.{Asked, Field, asked, question_with}
use Rattle.guard_policy.specs.Conditions.{condition_ids}
use Rattle.guard_policy.specs.Policy.{fixed}
use Rattle.audit_json.specs.declared.telling.Telling.{Telling}
use Rattle.question_audit.specs.QuestionLines.{is_undefined}
use Rattle.question_audit.specs.ConditionFacts.{id_text, verdict_text}
use Rattle.question_audit.specs.Dependences.{all_ids}
use Rattle.script_audit.specs.Told.{back, front, spelled}
use Rattle.script_audit.specs.Values.{Seen, field_told, script_told, value_told}

abbrev pub field_behind : Telling → List Node → Option Field → List ℕ
field_behind telling ns None = []
field_behind telling ns (Some field) = codes " " ++ field_told telling ns field

-- what a question answers, its field, and whether it may be changed
abbrev pub answer_text : Telling → Seen → Asked → List ℕ
answer_text telling a q =
    if is_undefined (value_of_field a.stores q.node q.field) then codes "has no answer here"
    else codes "[" ++ value_told telling a q.node ++ codes "]"
    ++ script_told telling q.node (value_of_field a.stores q.node q.field)
    ++ field_behind telling a.world.nodes q.field ++ codes " " ++ verdict_text (fixed a.world q.node)

abbrev pub question_text : Telling → Seen → Option Node → List ℕ
question_text telling a None = codes "no such question"
question_text telling a (Some n) =
    spelled telling (a.texts (statement_prompt n.op)) ++ codes " " ++ answer_text telling a (asked a.world.nodes n)

abbrev pub depends_told : Telling → Seen → ℕ → List ℕ
depends_told telling a id =
    front telling (codes "depends  ") (codes "depends") (codes "text")
    ++ id_text id ++ codes " " ++ question_text telling a (question_with a.world.nodes id) ++ back telling

-- whether a condition asks the question of an id, by the rules that it names, too
abbrev pub asks : List Node → Node → ℕ → Bool
asks ns c id = is_among id (condition_ids ns c)

-- the questions that it asks, each once, by rising ids
abbrev pub all_depends : Telling → Seen → Node → List ℕ
all_depends telling a c = flat_map (depends_told telling a) (filter (asks a.world.nodes c) all_ids)
