-- What a question is (own rule): its id, its prompt and help, its opcode and flags.
use Rattle.std.specs.Prelude.{ℕ, if◌then◌else◌, List, [], ◌++◌, codes, decimal}
use Rattle.std.specs.List.{flat_map}
use Rattle.ifr_opcodes.specs.Fields.{question_flags, statement_help, statement_prompt}
use Rattle.ifr_opcodes.specs.Forest.{Node}
use Rattle.ifr_opcodes.specs.Opcode.{number}
use Rattle.audit_html.specs.Html.{isolated}
use Rattle.audit_text.specs.Texts.{hex_text}
use Rattle.audit_text.specs.Words.{opcode_name}
use Rattle.question_audit.specs.Audited.{Audited}
use Rattle.question_audit.specs.QuestionLines.{has_no_text}
use Rattle.question_audit.specs.Limits.{flag_words}
use Rattle.question_rows.specs.Elements.{dim}

-- an id in decimal and in hex digits
abbrev pub id_cell : ℕ → List ℕ
id_cell id =
    codes "<code>" ++ decimal id ++ codes "</code><br><code>0x" ++ hex_text id ++ codes "</code>"

abbrev pub prompt_words : List ℕ → List ℕ
prompt_words text =
    if has_no_text text then codes "<span class=\"dim\">no prompt</span>" else isolated text

abbrev pub prompt_part : List ℕ → List ℕ
prompt_part text = codes "<p class=\"prompt\">" ++ prompt_words text ++ codes "</p>"

abbrev pub help_part : List ℕ → List ℕ
help_part text = if has_no_text text then [] else dim (isolated text)

-- the flags READ_ONLY, CALLBACK and RESET_REQUIRED that are set
abbrev pub flags_behind : List (List ℕ) → List ℕ
flags_behind words = flat_map (λ word. codes ", " ++ word) words

abbrev pub opcode_part : List ℕ → List ℕ
opcode_part op =
    dim
    (codes "<code>" ++ opcode_name (number op) ++ codes "</code>"
    ++ flags_behind (flag_words (question_flags op)))

abbrev pub subject_cell : Audited → Node → List ℕ
subject_cell a n =
    prompt_part (a.texts (statement_prompt n.op)) ++ help_part (a.texts (statement_help n.op))
    ++ opcode_part n.op
