-- What the checks of questions tell.
use Rattle.std.specs.Prelude.{◌≡◌, ℕ, Bool, false, ◌==◌, ◌||◌, Option, Some, None, Result, Ok, Err, List}
use Rattle.hii_bytes.specs.code.FirstFaults.{first_fault}
use Rattle.hii_bytes.specs.declared.cause.Fault.{Fault}
use Rattle.ifr_opcodes.specs.Forest.{Node}
use Rattle.ifr_opcodes.specs.Opcode.{number}
use Rattle.ifr_opcodes.specs.declared.codes.TheConstants.{ONE_OF, ORDERED_LIST}
use Rattle.hii_varstore.specs.Layout.{Shape}
use Rattle.hii_questions.specs.Faults.{QuestionPart, place_of, has_question_fault, has_option_fault, is_past}
use Rattle.hii_questions.specs.Fields.{Field}
use Rattle.hii_questions.specs.code.Causes.{question_causes}

-- the first fault, if there is one
abbrev pub TellsFault : Option Fault → Result (Unit {0}) Fault → Type 0
TellsFault fault (Ok done) = fault ≡ None
TellsFault fault (Err told) = fault ≡ Some told

abbrev pub first_part_fault : Shape → (ℕ → Bool) → List QuestionPart → Option Fault
first_part_fault shape known ps =
    first_fault place_of (has_question_fault shape known) question_causes ps

abbrev pub first_option_fault : Node → List Node → Option Fault
first_option_fault q os =
    first_fault (λ (o : Node). o.place) (has_option_fault q) question_causes os

-- a question whose options may have a fault
abbrev pub is_choice : Node → Bool
is_choice q = number q.op == ONE_OF || number q.op == ORDERED_LIST

-- a field, if there is one, reaches past the end of a store of so many bytes
abbrev pub reaches_past : Option Field → Option ℕ → Bool
reaches_past None size = false
reaches_past (Some field) size = is_past field size
