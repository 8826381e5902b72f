-- The nodes of a package by what they are (UEFI 2.8, 33.3.8.3 Opcode Reference).
use Rattle.std.specs.Prelude.{ℕ, ◌+◌, Bool, ◌==◌, if◌then◌else◌, Option, Some, None, List, [], length, filter}
use Rattle.std.specs.List.{last_or}
use Rattle.ifr_opcodes.specs.Fields.{question_id}
use Rattle.ifr_opcodes.specs.Opcode.{number}
use Rattle.ifr_opcodes.specs.Forest.{node, none, flat, Ancestor, Node, nodes, below}
use Rattle.ifr_opcodes.specs.Reading.{tree_of}
use Rattle.ifr_opcodes.specs.declared.codes.TheConstants.{FORM_SET, FORM, REF, ONE_OF_OPTION, DEFAULT, INCONSISTENT_IF, NO_SUBMIT_IF, WARNING_IF}
use Rattle.ifr_opcodes.specs.Rows.{is_question_number, is_statement_number, is_store_number}

-- The nodes of the forest that a package spells, by place. That `tree_of` gives this forest need not be believed: of a checked
-- package `SpellsForest bytes (tree_of bytes)` is told (IsChecked), and the laws `one_forest_is_spelled` and
-- `the_tree_is_the_spelled_forest` say that no other forest is spelled.
abbrev pub nodes_of : List ℕ → List Node
nodes_of bytes = nodes (tree_of bytes)

-- where a node ends, in bytes from the package's header: behind the END of its scope, or its opcode where it has none
abbrev pub end_of : Node → ℕ
end_of n = n.place + length (flat (node n.op n.children none))

abbrev pub is_form_set : Node → Bool
is_form_set n = number n.op == FORM_SET

abbrev pub is_form : Node → Bool
is_form n = number n.op == FORM

abbrev pub is_store : Node → Bool
is_store n = is_store_number (number n.op)

abbrev pub is_question : Node → Bool
is_question n = is_question_number (number n.op)

abbrev pub is_statement : Node → Bool
is_statement n = is_statement_number (number n.op)

abbrev pub is_reference : Node → Bool
is_reference n = number n.op == REF

abbrev pub is_option : Node → Bool
is_option n = number n.op == ONE_OF_OPTION

abbrev pub is_default : Node → Bool
is_default n = number n.op == DEFAULT

abbrev pub is_inconsistent : Node → Bool
is_inconsistent n = number n.op == INCONSISTENT_IF

abbrev pub is_no_submit : Node → Bool
is_no_submit n = number n.op == NO_SUBMIT_IF

abbrev pub is_warning : Node → Bool
is_warning n = number n.op == WARNING_IF

-- the statements of a form, by place
abbrev pub statements : Node → List Node
statements form = filter is_statement (below form)

-- what stands in the scope of a question, by place; a statement that is no question has none of it
abbrev pub of_question : (Node → Bool) → Node → List Node
of_question which n = if is_question n then filter which (below n) else []

abbrev pub options : Node → List Node
options n = of_question is_option n

abbrev pub defaults : Node → List Node
defaults n = of_question is_default n

abbrev pub inconsistents : Node → List Node
inconsistents n = of_question is_inconsistent n

abbrev pub no_submits : Node → List Node
no_submits n = of_question is_no_submit n

abbrev pub warnings : Node → List Node
warnings n = of_question is_warning n

-- the questions among ancestors
abbrev pub questions_among : List Ancestor → List Ancestor
questions_among path = filter (λ a. is_question_number (number a.op)) path

abbrev pub id_or_0 : Option Ancestor → ℕ
id_or_0 None = 0
id_or_0 (Some question) = question_id question.op

-- the id of the innermost of them, 0 where there is none (own rule)
abbrev pub this_among : List Ancestor → ℕ
this_among path = id_or_0 (last_or None (questions_among path))

-- the id of the question in whose scope a node stands (33.3.8.3, EFI_IFR_THIS)
abbrev pub this_of : Node → ℕ
this_of n = this_among n.path
