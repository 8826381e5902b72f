-- The default of a question for a class of defaults (UEFI 2.8, 33.2.5.8 Defaults, and 33.3.8.3, EFI_IFR_DEFAULT; which of several
-- counts, and what there is where these do not say it, are own rules).
use Rattle.std.specs.Prelude.{ℕ, Bool, false, ◌==◌, ◌&&◌, nat_le, if◌then◌else◌, Option, Some, None, option_map, option_and_then, List, length}
use Rattle.std.specs.List.{find}
use Rattle.byteorder.specs.Endian.{little_number}
use Rattle.ifr_opcodes.specs.declared.codes.TheConstants.{CHECKBOX, ONE_OF}
use Rattle.ifr_opcodes.specs.declared.kinds.TheConstants.{TYPE_NUM_SIZE_64, TYPE_BOOLEAN, TYPE_STRING, TYPE_OTHER, TYPE_BUFFER}
use Rattle.ifr_opcodes.specs.Fields.{question_id, default_id, default_kind, default_value, option_value, is_default_option, is_manufacturing_option, is_default_checkbox, is_manufacturing_checkbox}
use Rattle.ifr_opcodes.specs.Forest.{Node}
use Rattle.ifr_opcodes.specs.Opcode.{number}
use Rattle.ifr_expr.specs.Meaning.{Rule, value}
use Rattle.ifr_expr.specs.Trees.{Tree}
use Rattle.ifr_expr.specs.Values.{Value, as_number}
use Rattle.ifr_nodes.specs.NodeExpressions.{value_tree}
use Rattle.ifr_nodes.specs.Nodes.{options, defaults}
use Rattle.hii_values.specs.Inputs.{Offer, raw, units, elements}
use Rattle.hii_values.specs.Items.{bytes_of_items}
use Rattle.hii_values.specs.Types.{element_width}
use Rattle.ifr_defaults.specs.declared.classes.TheConstants.{DEFAULT_CLASS_STANDARD, DEFAULT_CLASS_MANUFACTURING}

-- what a default is taken from: the rules, what questions answer, and the text of each string id
pub record Sources : Type 0 where
  pub rules : List Rule
  pub answers : ℕ → Value
  pub texts : ℕ → Option (List ℕ)

-- ---- what a DEFAULT gives

abbrev pub value_number : List ℕ → ℕ
value_number bytes = little_number (length bytes) bytes

-- the value of an expression in the scope of a question, where it is a Boolean or a number
abbrev pub evaluated : Sources → Node → Tree → Option Offer
evaluated s q tree = option_map raw (as_number (value s.rules s.answers (question_id q.op) tree))

-- what a DEFAULT of a question gives, by its Type: a number; a Boolean, where any byte other than 0 is true; the text of a
-- string id, if it has one; the elements of a buffer; the value of its expression
abbrev pub given : Sources → Node → Node → Option Offer
given s q d =
    let kind = default_kind d.op in
    let bytes = default_value d.op in
    if nat_le kind TYPE_NUM_SIZE_64 then Some (raw (value_number bytes))
    else if kind == TYPE_BOOLEAN then Some (raw (if value_number bytes == 0 then 0 else 1))
    else if kind == TYPE_STRING then option_map units (s.texts (value_number bytes))
    else if kind == TYPE_BUFFER then Some (elements (bytes_of_items (element_width q) bytes))
    else if kind == TYPE_OTHER then option_and_then (evaluated s q) (value_tree d)
    else None

-- ---- what flags give

-- whether the flags of an option choose it for a class
abbrev pub is_chosen_for : ℕ → List ℕ → Bool
is_chosen_for class op =
    if class == DEFAULT_CLASS_STANDARD then is_default_option op
    else if class == DEFAULT_CLASS_MANUFACTURING then is_manufacturing_option op
    else false

-- whether the flags of a checkbox check it for a class
abbrev pub is_checked_for : ℕ → List ℕ → Bool
is_checked_for class op =
    if class == DEFAULT_CLASS_STANDARD then is_default_checkbox op
    else if class == DEFAULT_CLASS_MANUFACTURING then is_manufacturing_checkbox op
    else false

-- Of the options of a ONE_OF the first that is chosen counts, whatever guards or locks it; those of an ORDERED_LIST give nothing.
abbrev pub flagged : Node → ℕ → Option ℕ
flagged q class =
    if number q.op == ONE_OF
    then option_map (λ o. option_value o.op) (find (λ o. is_chosen_for class o.op) (options q))
    else if number q.op == CHECKBOX && is_checked_for class q.op then Some 1
    else None

-- ---- the default

-- the DEFAULT of a question for a class: the first by place
abbrev pub default_with : Node → ℕ → Option Node
default_with q class = find (λ d. default_id d.op == class) (defaults q)

-- A DEFAULT decides, even where it gives nothing; flags are asked where there is none.
abbrev pub given_or_flagged : Sources → Node → ℕ → Option Node → Option Offer
given_or_flagged s q class (Some d) = given s q d
given_or_flagged s q class None = option_map raw (flagged q class)

-- the default of a question for a class
abbrev pub default_of : Sources → Node → ℕ → Option Offer
default_of s q class = given_or_flagged s q class (default_with q class)
