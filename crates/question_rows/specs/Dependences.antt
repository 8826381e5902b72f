-- On which questions it depends whether a question may be changed, and which questions depend on it (own rule).
use Rattle.std.specs.Prelude.{ℕ, if◌then◌else◌, Option, Some, None, List, ◌++◌, codes, decimal, map}
use Rattle.std.specs.List.{flat_map}
use Rattle.ifr_opcodes.specs.Fields.{question_id}
use Rattle.ifr_opcodes.specs.Forest.{Node}
use Rattle.hii_questions.specs.Answers.{value_of_field}
use Rattle.hii_questions.specs.Fields.{Asked, asked, question_with}
use Rattle.question_audit.specs.Audited.{Audited}
use Rattle.question_audit.specs.QuestionLines.{is_undefined}
use Rattle.question_audit.specs.Dependences.{decided_by, support_ids, when_text}
use Rattle.question_audit.specs.declared.when.When.{When}
use Rattle.question_audit.specs.declared.when.When.TheVariants.{AtCommands, AtOpening}
use Rattle.question_rows.specs.Elements.{listed, small}
use Rattle.question_rows.specs.Links.{question_link}
use Rattle.question_rows.specs.Shown.{shown_words}

-- ---- on which questions it depends, by rising ids

abbrev pub depends_start : When → List ℕ
depends_start AtCommands = codes "depends on "
depends_start AtOpening = codes "depends at opening on "

abbrev pub answer_words : Audited → Asked → List ℕ
answer_words a q =
    if is_undefined (value_of_field a.stores q.node q.field) then codes " (no answer here)"
    else codes " = " ++ shown_words a q

-- the question of an id, or that there is none
abbrev pub known_dependence : When → Audited → Asked → List ℕ
known_dependence when a q = small (depends_start when ++ question_link a q.node ++ answer_words a q)

abbrev pub unknown_dependence : When → ℕ → List ℕ
unknown_dependence when id = small (depends_start when ++ decimal id ++ codes " (no such question)")

abbrev pub dependence_of : When → Audited → ℕ → Option Node → List ℕ
dependence_of when a id None = unknown_dependence when id
dependence_of when a id (Some n) = known_dependence when a (asked a.world.nodes n)

abbrev pub dependence_part : When → Audited → ℕ → List ℕ
dependence_part when a id = dependence_of when a id (question_with a.world.nodes id)

abbrev pub depends_part : When → Audited → Node → List ℕ
depends_part when a n = flat_map (dependence_part when a) (support_ids when a.world.nodes n)

-- ---- which questions depend on it, by place: those at commands, then those at opening

abbrev pub decided_item : When → Audited → Asked → List ℕ
decided_item when a q = question_link a q.node ++ when_text when

abbrev pub decided_items : When → Audited → ℕ → List (List ℕ)
decided_items when a id = map (decided_item when a) (decided_by when a.world.nodes id)

abbrev pub decides_part : Audited → ℕ → List ℕ
decides_part a id =
    listed (codes "<p class=\"small\">decides ") (codes ", ") (codes "</p>")
    (decided_items AtCommands a id ++ decided_items AtOpening a id)

abbrev pub dependences_part : Audited → Node → List ℕ
dependences_part a n =
    depends_part AtCommands a n ++ depends_part AtOpening a n ++ decides_part a (question_id n.op)
