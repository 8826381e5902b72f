-- What is told of a forms package over its stores: how many questions stand so, and the questions that are found (own rule).
use Rattle.std.specs.Prelude.{ℕ, Option, Some, None, List, [], ◌++◌, codes, filter}
use Rattle.std.specs.List.{flat_map}
use Rattle.ifr_opcodes.specs.Forest.{Node}
use Rattle.ifr_nodes.specs.Nodes.{is_form}
use Rattle.hii_questions.specs.Fields.{asked}
use Rattle.audit_json.specs.Objects.{object}
use Rattle.audit_json.specs.Telling.{told_as}
use Rattle.question_audit.specs.Audited.{Audited}
use Rattle.question_audit.specs.FormLines.{form_questions}
use Rattle.question_audit.specs.QuestionLines.{question_line}
use Rattle.question_objects.specs.FormSets.{listed_members}
use Rattle.survey_audit.specs.Counts.{counts_of}
use Rattle.survey_audit.specs.Finding.{is_found}
use Rattle.survey_audit.specs.Lines.{Heading, counts_told, numbers_members, numbers_words}

-- a question as `questions` tells it, behind the numbers
abbrev pub found_line : Heading → Audited → Node → List ℕ
found_line h a n = numbers_words h ++ question_line a (asked a.world.nodes n)

abbrev pub found_object : Heading → Audited → Node → Node → List ℕ
found_object h a form n =
    object (codes "question") (numbers_members h ++ listed_members a h.base form n)

abbrev pub found_told : Heading → Audited → Node → Node → List ℕ
found_told h a form n = told_as h.telling (found_line h a n) (found_object h a form n)

-- those of a form that are found by small letters, and those of all forms, by place
abbrev pub form_found_told : Heading → Audited → List ℕ → Node → List ℕ
form_found_told h a letters form =
    flat_map (found_told h a form) (filter (is_found a letters) (form_questions form))

abbrev pub all_found_told : Heading → Audited → List ℕ → List ℕ
all_found_told h a letters =
    flat_map (form_found_told h a letters) (filter is_form a.world.nodes)

-- where a text is asked for
abbrev pub questions_told : Heading → Audited → Option (List ℕ) → List ℕ
questions_told h a None = []
questions_told h a (Some letters) = all_found_told h a letters

abbrev pub opened_told : Heading → Audited → Option (List ℕ) → List ℕ
opened_told h a letters = counts_told h (counts_of a.world) ++ questions_told h a letters
