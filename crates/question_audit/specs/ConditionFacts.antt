-- Facts of conditions: of guards and of the checks of a question (own rule).
use Rattle.std.specs.Prelude.{ℕ, ◌+◌, ◌==◌, if◌then◌else◌, Option, Some, None, List, ◌++◌, codes, decimal}
use Rattle.std.specs.List.{flat_map}
use Rattle.hii_bytes.specs.Texts.{place_text}
use Rattle.ifr_opcodes.specs.Forest.{Node}
use Rattle.ifr_opcodes.specs.Opcode.{number}
use Rattle.ifr_opcodes.specs.declared.codes.TheConstants.{DISABLE_IF}
use Rattle.ifr_expr.specs.Meaning.{value}
use Rattle.ifr_expr.specs.Values.{Value, holds}
use Rattle.ifr_nodes.specs.NodeExpressions.{expression_tree}
use Rattle.ifr_nodes.specs.Guards.{guards}
use Rattle.ifr_opcodes.specs.Rows.{is_condition_number}
use Rattle.ifr_nodes.specs.Nodes.{of_question, this_of}
use Rattle.guard_policy.specs.Policy.{is_removed}
use Rattle.guard_policy.specs.declared.denial.Denial.{Denial}
use Rattle.audit_text.specs.Texts.{hex_text, left_aligned}
use Rattle.audit_text.specs.Words.{opcode_name}
use Rattle.condition_text.specs.Senses.{sense}
use Rattle.condition_text.specs.Texts as conditions
use Rattle.question_audit.specs.Audited.{Audited}
use Rattle.question_audit.specs.FormLines.{denial_text}
use Rattle.question_audit.specs.QuestionLines.{is_undefined}

-- a word in its column, eight wide, and a space
abbrev pub column : List ℕ → List ℕ
column word = left_aligned 8 word ++ codes " "

-- an id in decimal and in hex digits
abbrev pub id_text : ℕ → List ℕ
id_text id = decimal id ++ codes " (0x" ++ hex_text id ++ codes ")"

-- a line: a word in its column, and a text behind it
abbrev pub fact : List ℕ → List ℕ → List ℕ
fact word its = column word ++ its ++ codes "\n"

-- ---- verdicts

abbrev pub verdict_text : Option Denial → List ℕ
verdict_text None = codes "open"
verdict_text (Some denial) = denial_text denial

-- ---- conditions

-- what a condition is over the stores
abbrev pub value_at : Audited → Node → Value
value_at a c = value a.sources.rules a.sources.answers (this_of c) (expression_tree c)

abbrev pub state_text : Value → List ℕ
state_text its =
    if is_undefined its then codes "undefined"
    else if holds its then codes "holds"
    else codes "does not hold"

-- a DISABLE_IF was removed when the form set was opened, or kept (UEFI 2.8, 33.3.8.3, EFI_IFR_DISABLE_IF)
abbrev pub guard_state : Audited → Node → List ℕ
guard_state a g =
    if number g.op == DISABLE_IF
    then (if is_removed a.world.removed g then codes "removed" else codes "kept")
    else state_text (value_at a g)

abbrev pub condition_words : Node → List ℕ
condition_words c = conditions.text (sense (expression_tree c))

-- a condition by its opcode, its place in the forms package and its byte in the list, with its state and what it says
abbrev pub condition_fact : List ℕ → ℕ → Node → List ℕ → List ℕ
condition_fact word package_place c state =
    column word ++ opcode_name (number c.op) ++ codes " at " ++ place_text c.place
    ++ codes " (byte " ++ hex_text (package_place + c.place) ++ codes ") " ++ state
    ++ codes ": " ++ condition_words c ++ codes "\n"

-- the guards around a question, the outermost first
abbrev pub guard_fact : Audited → ℕ → Node → List ℕ
guard_fact a package_place g = condition_fact (codes "guard") package_place g (guard_state a g)

abbrev pub guard_facts : Audited → ℕ → Node → List ℕ
guard_facts a package_place n = flat_map (guard_fact a package_place) (guards n)

-- the INCONSISTENT_IFs, NO_SUBMIT_IFs and WARNING_IFs in the scope of a question, by place (UEFI 2.8, 33.3.8.3,
-- EFI_IFR_INCONSISTENT_IF, EFI_IFR_NO_SUBMIT_IF and EFI_IFR_WARNING_IF)
abbrev pub checks : Node → List Node
checks n = of_question (λ c. is_condition_number (number c.op)) n

abbrev pub check_fact : Audited → ℕ → Node → List ℕ
check_fact a package_place c =
    condition_fact (codes "check") package_place c (state_text (value_at a c))

abbrev pub check_facts : Audited → ℕ → Node → List ℕ
check_facts a package_place n = flat_map (check_fact a package_place) (checks n)
