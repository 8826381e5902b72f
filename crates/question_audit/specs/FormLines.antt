-- The forms of a form set, each with its questions (own rule).
use Rattle.std.specs.Prelude.{ℕ, Bool, List, [], ◌++◌, filter, codes, decimal}
use Rattle.std.specs.List.{flat_map}
use Rattle.hii_bytes.specs.Texts.{place_text}
use Rattle.ifr_opcodes.specs.Fields.{form_id, form_title}
use Rattle.ifr_opcodes.specs.Forest.{Node}
use Rattle.ifr_nodes.specs.Nodes.{is_form, is_question, statements}
use Rattle.hii_values.specs.Denials.{kind_name}
use Rattle.hii_questions.specs.Fields.{asked}
use Rattle.guard_policy.specs.declared.denial.Denial.{Denial}
use Rattle.audit_text.specs.Texts.{safe_text}
use Rattle.question_audit.specs.Audited.{Audited}
use Rattle.question_audit.specs.QuestionLines.{question_line}
use Rattle.question_audit.specs.Reach.{reach_of}
use Rattle.question_audit.specs.declared.ways.Reach.{Reach}
use Rattle.question_audit.specs.declared.ways.Reach.TheVariants.{Open, Hidden, Closed, Below, Unnamed}

-- what forbids, and where
abbrev pub denial_text : Denial → List ℕ
denial_text denial = kind_name denial.kind ++ codes " at " ++ place_text denial.place

-- what is told of a form that is not reached
abbrev pub reach_text : Reach → List ℕ
reach_text Open = []
reach_text (Hidden denial) = codes " (" ++ denial_text denial ++ codes ")"
reach_text (Closed denial) = codes " (closed reference: " ++ denial_text denial ++ codes ")"
reach_text Below = codes " (only below forms that are not reached)"
reach_text Unnamed = codes " (no reference names it)"

-- a form by its id, its title and how it is reached, where a test of ids tells which forms are
abbrev pub form_text : Audited → (ℕ → Bool) → Node → List ℕ
form_text a is_reached form =
    decimal (form_id form.op) ++ codes " " ++ safe_text (a.texts (form_title form.op))
    ++ reach_text (reach_of a.world is_reached form)

-- the questions of a form, by place
abbrev pub form_questions : Node → List Node
form_questions form = filter is_question (statements form)

abbrev pub form_lines : Audited → (ℕ → Bool) → Node → List ℕ
form_lines a is_reached form =
    codes "FORM " ++ form_text a is_reached form ++ codes "\n"
    ++ flat_map (λ n. question_line a (asked a.world.nodes n)) (form_questions form)

-- all forms, by place
abbrev pub questions_text : Audited → (ℕ → Bool) → List ℕ
questions_text a is_reached = flat_map (form_lines a is_reached) (filter is_form a.world.nodes)
