-- Values as scripts take them (own rule).
use Rattle.std.specs.Prelude.{ℕ, ◌==◌, if◌then◌else◌, Option, Some, None, option_and_then, option_map, Result, Ok, Err, List, [], ◌∷◌, ◌++◌, codes, decimal}
use Rattle.std.specs.List.{flat_map}
use Rattle.browser_rules.specs.Strings.{characters}
use Rattle.ifr_opcodes.specs.declared.codes.TheConstants.{CHECKBOX, NUMERIC, ONE_OF, STRING, ORDERED_LIST}
use Rattle.ifr_opcodes.specs.Fields.{display, numeric_width}
use Rattle.ifr_opcodes.specs.Forest.{Node}
use Rattle.ifr_opcodes.specs.Opcode.{number}
use Rattle.ifr_expr.specs.Values.{Value, boolean, natural, text, buffer}
use Rattle.hii_varstore.specs.Stores.{StoreMap}
use Rattle.hii_values.specs.Inputs.{Offer}
use Rattle.hii_values.specs.Items.{items_in}
use Rattle.hii_values.specs.Types.{element_width, type_of}
use Rattle.hii_values.specs.declared.denial.DenialKind.{DenialKind}
use Rattle.hii_questions.specs.Answers.{value_of_field}
use Rattle.hii_questions.specs.Changes.{with_field}
use Rattle.hii_questions.specs.Fields.{Asked}
use Rattle.hii_questions.specs.Fits.{fits_field}
use Rattle.ifr_defaults.specs.Defaults.{default_of}
use Rattle.form_page.specs.RowValues.{number_text}
use Rattle.form_page.specs.Texts.{utf8}
use Rattle.audit_text.specs.Texts.{safe_text}
use Rattle.question_audit.specs.Audited.{Audited}

-- numbers with commas between
abbrev pub list_text : List ℕ → List ℕ
list_text [] = []
list_text (n ∷ ns) = decimal n ++ flat_map (λ m. codes "," ++ decimal m) ns

-- a checkbox is 1 or 0
abbrev pub checkbox_script : Value → Option (List ℕ)
checkbox_script (boolean b) = Some (if b then codes "1" else codes "0")
checkbox_script _ = None

-- a number as a page shows it
abbrev pub numeric_script : Value → List ℕ → Option (List ℕ)
numeric_script (natural n) op = Some (utf8 (number_text (display op) (numeric_width op) n))
numeric_script _ op = None

abbrev pub one_of_script : Value → Option (List ℕ)
one_of_script (natural n) = Some (decimal n)
one_of_script _ = None

-- the characters of a text, and these as they stand in a line
abbrev pub string_characters : Value → Option (List ℕ)
string_characters (text units) = Some (characters units)
string_characters _ = None

abbrev pub string_script : Value → Option (List ℕ)
string_script its = option_map safe_text (string_characters its)

abbrev pub list_script : Value → Node → Option (List ℕ)
list_script (buffer bytes) n = Some (list_text (items_in (element_width n) bytes))
list_script _ n = None

-- A value of a question as `set`, `order` and `text` take it. A password is not told, and other questions have none.
abbrev pub script_value : Node → Value → Option (List ℕ)
script_value n value =
    if number n.op == CHECKBOX then checkbox_script value
    else if number n.op == NUMERIC then numeric_script value n.op
    else if number n.op == ONE_OF then one_of_script value
    else if number n.op == STRING then string_script value
    else if number n.op == ORDERED_LIST then list_script value n
    else None

-- the value of a question in some stores
abbrev pub stored_value : StoreMap → Asked → Option (List ℕ)
stored_value stores q = script_value q.node (value_of_field stores q.node q.field)

-- the value that a question has once it has taken what is offered; none where it does not take it
abbrev pub value_with : StoreMap → Asked → Result (List ℕ) DenialKind → Option Value
value_with stores q (Err _) = None
value_with stores q (Ok bytes) =
    Some (value_of_field (with_field stores q.field bytes) q.node q.field)

abbrev pub taken_value : StoreMap → Asked → Offer → Option Value
taken_value stores q offer = value_with stores q (fits_field (type_of q.node) q.field offer)

-- the value that its default for a class gives a question, where it takes this (UEFI 2.8, 33.2.5.8 Defaults)
abbrev pub default_taken : Audited → Asked → ℕ → Option Value
default_taken a q class =
    option_and_then (taken_value a.stores q) (default_of a.sources q.node class)

abbrev pub default_value : Audited → Asked → ℕ → Option (List ℕ)
default_value a q class = option_and_then (script_value q.node) (default_taken a q class)

-- a text behind another one, where it is there
abbrev pub behind : List ℕ → Option (List ℕ) → List ℕ
behind before None = []
behind before (Some its) = before ++ its
