-- On which questions it depends whether a question may be changed, and which questions depend on it (own rule).
use Rattle.std.specs.Prelude.{ℕ, Bool, if◌then◌else◌, Option, Some, None, List, [], ◌++◌, filter, codes, decimal}
use Rattle.std.specs.List.{flat_map, range_with_len}
use Rattle.ifr_opcodes.specs.Fields.{question_id, statement_prompt}
use Rattle.ifr_opcodes.specs.Forest.{Node}
use Rattle.ifr_opcodes.specs.Rows.{is_among}
use Rattle.ifr_nodes.specs.Guards.{guards}
use Rattle.hii_questions.specs.Answers.{value_of_field}
use Rattle.hii_questions.specs.Fields.{Asked, Field, asked, question_with, questions}
use Rattle.guard_policy.specs.Conditions.{condition_ids}
use Rattle.guard_policy.specs.Policy.{fixed}
use Rattle.audit_text.specs.Texts.{safe_text}
use Rattle.question_audit.specs.Audited.{Audited}
use Rattle.question_audit.specs.QuestionLines.{field_text, is_undefined, told_value}
use Rattle.question_audit.specs.ScriptValues.{behind, stored_value}
use Rattle.question_audit.specs.ConditionFacts.{fact, id_text, verdict_text}
use Rattle.question_audit.specs.Times.{counts_when}
use Rattle.question_audit.specs.declared.when.When.{When}
use Rattle.question_audit.specs.declared.when.When.TheVariants.{AtCommands, AtOpening}

-- the ids of the questions on whose answers it depends then: those that the conditions around it name that decide then
abbrev pub depends_on : When → List Node → Node → List ℕ
depends_on when ns n = flat_map (condition_ids ns) (filter (counts_when when) (guards n))

-- ---- on which questions it depends

abbrev pub field_behind : List Node → Option Field → List ℕ
field_behind ns None = []
field_behind ns (Some field) = codes " " ++ field_text ns field

-- what a question answers, its field, and whether it may be changed
abbrev pub answer_text : Audited → Asked → List ℕ
answer_text a q =
    if is_undefined (value_of_field a.stores q.node q.field) then codes "has no answer here"
    else codes "[" ++ told_value a q.node ++ codes "]"
    ++ behind (codes " value ") (stored_value a.stores q) ++ field_behind a.world.nodes q.field
    ++ codes " " ++ verdict_text (fixed a.world q.node)

abbrev pub dependence_text : Audited → Option Node → List ℕ
dependence_text a None = codes "no such question"
dependence_text a (Some n) =
    safe_text (a.texts (statement_prompt n.op)) ++ codes " " ++ answer_text a (asked a.world.nodes n)

abbrev pub depends_word : When → List ℕ
depends_word AtCommands = codes "depends"
depends_word AtOpening = codes "opening"

abbrev pub depends_fact : When → Audited → ℕ → List ℕ
depends_fact when a id =
    fact (depends_word when)
    (id_text id ++ codes " " ++ dependence_text a (question_with a.world.nodes id))

-- all ids that there may be, rising
unfoldable pub all_ids : List ℕ
all_ids = range_with_len 0 65536

-- those ids, each once, rising
abbrev pub supports : When → List Node → Node → ℕ → Bool
supports when ns n id = is_among id (depends_on when ns n)

abbrev pub support_ids : When → List Node → Node → List ℕ
support_ids when ns n = filter (supports when ns n) all_ids

abbrev pub depends_facts : When → Audited → Node → List ℕ
depends_facts when a n = flat_map (depends_fact when a) (support_ids when a.world.nodes n)

-- ---- which questions depend on it

abbrev pub when_text : When → List ℕ
when_text AtCommands = []
when_text AtOpening = codes " (at opening)"

abbrev pub decides_fact : When → Audited → Asked → List ℕ
decides_fact when a q =
    fact (codes "decides")
    (decimal (question_id q.node.op) ++ codes " " ++ safe_text (a.texts (statement_prompt q.node.op)) ++ when_text when)

abbrev pub is_decided_by : When → List Node → ℕ → Asked → Bool
is_decided_by when ns id q = is_among id (depends_on when ns q.node)

-- the questions whose changing depends then on the answer to the question of an id, by place
abbrev pub decided_by : When → List Node → ℕ → List Asked
decided_by when ns id = filter (is_decided_by when ns id) (questions ns)

abbrev pub decides_facts : When → Audited → Node → List ℕ
decides_facts when a n =
    flat_map (decides_fact when a) (decided_by when a.world.nodes (question_id n.op))

-- those at commands, then those at opening
abbrev pub all_decides_facts : Audited → Node → List ℕ
all_decides_facts a n = decides_facts AtCommands a n ++ decides_facts AtOpening a n
