-- What stands at a place of a forms package, and before it, as far as the lengths of opcodes allow (own rule; UEFI 2.8, 33.3.8.2.1
-- EFI_IFR_OP_HEADER).
use Rattle.std.specs.Prelude.{ℕ, max, ◌==◌, ◌&&◌, nat_le, if◌then◌else◌, Option, Some, None, List, [], ◌∷◌, drop, length, take}
use Rattle.browser_rules.specs.Forest.{stated_length}
use Rattle.browser_rules.specs.Opcodes.{number}
use Rattle.ifr_opcodes.specs.Fields.{form_id, form_title, question_id, statement_prompt}
use Rattle.ifr_opcodes.specs.Rows.{is_question_number}
use Rattle.ifr_opcodes.specs.declared.codes.TheConstants.{FORM}
use Rattle.opcode_audit.specs.Walk.{opcodes_in}
use Rattle.check_audit.specs.declared.behind.Named.{Named}
use Rattle.check_audit.specs.declared.behind.Seen.{Seen}

-- the form that an opcode is, with its title, and the question, with its prompt, where none of their fields is cut
abbrev pub form_in : List ℕ → Option Named
form_in op =
    if number op == FORM && nat_le 6 (length op) then Some record { id = form_id op; text = form_title op } else None

abbrev pub question_in : List ℕ → Option Named
question_in op =
    if is_question_number (number op) && nat_le 13 (length op)
    then Some record { id = question_id op; text = statement_prompt op } else None

-- what is seen behind a form and a question, where an opcode may be one more: a form begins anew, and only in one a question is seen
abbrev pub with_question : Option Named → Option Named → Seen → Seen
with_question (Some form) (Some question) seen = record { form = Some form; question = Some question }
with_question _ _ seen = seen

abbrev pub with_either : Option Named → Option Named → Seen → Seen
with_either (Some form) question seen = record { form = Some form; question = None }
with_either None question seen = with_question seen.form question seen

abbrev pub seen_with : Seen → List ℕ → Seen
seen_with seen op = with_either (form_in op) (question_in op) seen

abbrev pub seen_from : Seen → List (List ℕ) → Seen
seen_from seen [] = seen
seen_from seen (op ∷ ops) = seen_from (seen_with seen op) ops

abbrev pub nothing_seen : Seen
nothing_seen = record { form = None; question = None }

-- the last form of the opcodes before a place, and the last question behind it
abbrev pub seen_before : List ℕ → ℕ → Seen
seen_before ifr place = seen_from nothing_seen (opcodes_in (drop 4 (take place ifr)))

-- the bytes of an opcode that are there, of the two of its header at least, where these are there
abbrev pub front_opcode : List ℕ → Option (List ℕ)
front_opcode bytes =
    if nat_le 2 (length bytes) then Some (take (max (stated_length bytes) 2) bytes) else None

abbrev pub opcode_at : List ℕ → ℕ → Option (List ℕ)
opcode_at ifr place = front_opcode (drop place ifr)
