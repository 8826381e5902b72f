-- Values of questions, as they stand in lines and in strings of JSON (own rule).
use Rattle.std.specs.Prelude.{ℕ, ◌==◌, if◌then◌else◌, List, [], ◌++◌, codes, decimal}
use Rattle.browser_rules.specs.Strings.{characters}
use Rattle.ifr_opcodes.specs.declared.codes.TheConstants.{STRING}
use Rattle.ifr_opcodes.specs.Forest.{Node}
use Rattle.ifr_opcodes.specs.Opcode.{number}
use Rattle.ifr_expr.specs.Values.{Value, text}
use Rattle.hii_varstore.specs.Stores.{StoreMap}
use Rattle.hii_questions.specs.Fields.{Field}
use Rattle.guard_policy.specs.World.{World}
use Rattle.form_page.specs.RowValues.{value_shown}
use Rattle.audit_text.specs.Texts.{ascii_name, hex_text}
use Rattle.audit_json.specs.declared.telling.Telling.{Telling}
use Rattle.question_audit.specs.QuestionLines.{name_of, store_with, unguarded}
use Rattle.question_audit.specs.ScriptValues.{behind, script_value}
use Rattle.script_audit.specs.Told.{spelled}

-- a form set over some stores: the characters that are shown of each string id, and what decides
pub record Seen : Type 0 where
  pub texts : ℕ → List ℕ
  pub world : World
  pub stores : StoreMap

-- the characters of a value, as a page would show it if nothing were hidden
abbrev pub value_chars : Seen → Node → List ℕ
value_chars a n = value_shown a.texts (unguarded a.world) a.stores n

abbrev pub value_told : Telling → Seen → Node → List ℕ
value_told telling a n = spelled telling (value_chars a n)

-- a value as scripts take it, behind its word, where there is one
abbrev pub text_told : Telling → Value → List ℕ
text_told telling (text units) = codes " value " ++ spelled telling (characters units)
text_told telling _ = []

abbrev pub script_told : Telling → Node → Value → List ℕ
script_told telling n value =
    if number n.op == STRING then text_told telling value else behind (codes " value ") (script_value n value)

-- a field: NAME:0xOFFSET(WIDTH)
abbrev pub field_told : Telling → List Node → Field → List ℕ
field_told telling ns field =
    spelled telling (ascii_name (name_of (store_with ns field.store)))
    ++ codes ":0x" ++ hex_text field.offset ++ codes "(" ++ decimal field.width ++ codes ")"
