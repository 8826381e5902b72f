-- What a question takes (own rule; numbers and lengths are those of UEFI 2.8, 33.3.8.3 under the name of each opcode).
use Rattle.std.specs.Prelude.{ℕ, ◌==◌, if◌then◌else◌, List, [], ◌++◌, codes, decimal}
use Rattle.ifr_opcodes.specs.declared.codes.TheConstants.{NUMERIC, ORDERED_LIST, PASSWORD, STRING}
use Rattle.ifr_opcodes.specs.Fields.{is_unique_set, numeric_maximum, numeric_minimum, numeric_step, ordered_list_containers, password_maximum, password_minimum, string_maximum, string_minimum}
use Rattle.ifr_opcodes.specs.Opcode.{number}
use Rattle.question_audit.specs.Limits.{list_least, shown_number, step_text}
use Rattle.question_rows.specs.Elements.{dim}

abbrev pub range_part : List ℕ → List ℕ
range_part op =
    dim
    (shown_number op (numeric_minimum op) ++ codes " to " ++ shown_number op (numeric_maximum op)
    ++ step_text op (numeric_step op))

-- from so many to so many
abbrev pub span_part : ℕ → ℕ → List ℕ → List ℕ
span_part least most what = dim (decimal least ++ codes " to " ++ decimal most ++ what)

abbrev pub elements_part : List ℕ → List ℕ
elements_part op =
    span_part (list_least op) (ordered_list_containers op)
    (if is_unique_set op then codes " elements, each once" else codes " elements")

abbrev pub limits_part : List ℕ → List ℕ
limits_part op =
    if number op == NUMERIC then range_part op
    else if number op == STRING
    then span_part (string_minimum op) (string_maximum op) (codes " characters")
    else if number op == PASSWORD
    then span_part (password_minimum op) (password_maximum op) (codes " characters")
    else if number op == ORDERED_LIST then elements_part op
    else []
