-- What the standing of a statement tells.
use Rattle.std.specs.Prelude.{◌≡◌, if◌then◌else◌, Some, None, option_map, Result, Ok, Err, List, ⊤}
use Rattle.ifr_opcodes.specs.Forest.{Node}
use Rattle.ifr_nodes.specs.Nodes.{is_question}
use Rattle.hii_questions.specs.Fields.{asked}
use Rattle.hii_questions.specs.code.Views.{question_view}
use Rattle.guard_policy.specs.declared.denial.Denial.{Denial}
use Rattle.guard_policy.specs.declared.standing.Standing.{Standing}
use Rattle.guard_policy.specs.declared.standing.Standing.TheVariants.{Hidden, Seen}

-- whether it is seen
abbrev pub listed_answer : Standing → Result Unit Denial
listed_answer (Hidden denial) = Err denial
listed_answer (Seen statement) = Ok tt

-- whether it may be changed: what hides it denies that too
abbrev pub changeable_answer : Standing → Result Unit Denial
changeable_answer (Hidden denial) = Err denial
changeable_answer (Seen statement) = statement.changeable

-- A statement that is seen is told as the question that it is, if it is one.
abbrev pub TellsQuestion : List Node → Node → Standing → Type 0
TellsQuestion ns n (Hidden denial) = ⊤
TellsQuestion ns n (Seen statement) =
    option_map question_view statement.question
    ≡ (if is_question n then Some (asked ns n) else None)
