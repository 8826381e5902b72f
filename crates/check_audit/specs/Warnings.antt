-- What is strange of a forms package that is good (own rule).
use Rattle.std.specs.Prelude.{ℕ, suc, ◌+◌, ◌*◌, Bool, true, false, not, ◌==◌, ◌&&◌, if◌then◌else◌, pos, int_lt, Option, Some, None, is_none, is_some, option_and_then, option_map, List, [], ◌∷◌, ◌++◌, drop, filter, length}
use Rattle.std.specs.List.{filter_map, flat_map, list_any}
use Rattle.std.specs.List.Sorted.{IsSortedByKey, IsStableByKey}
use Rattle.std.specs.Ordering.{nat_cmp}
use Rattle.browser_rules.specs.Strings.{Spoken, text_in}
use Rattle.ifr_opcodes.specs.Fields.{display, form_id, numeric_maximum, numeric_minimum, numeric_width, password_maximum, password_minimum, ref_target, string_maximum, string_minimum}
use Rattle.ifr_opcodes.specs.Forest.{Node}
use Rattle.ifr_opcodes.specs.Opcode.{number}
use Rattle.ifr_opcodes.specs.Rows.{is_condition_number}
use Rattle.ifr_opcodes.specs.declared.codes.TheConstants.{NUMERIC, PASSWORD, STRING}
use Rattle.ifr_expr.specs.Support.{support}
use Rattle.ifr_expr.specs.Trees.{Tree}
use Rattle.ifr_nodes.specs.Guards.{is_guard}
use Rattle.ifr_nodes.specs.NodeExpressions.{expression_tree, value_tree}
use Rattle.ifr_nodes.specs.Nodes.{defaults, is_form, is_reference, is_statement, nodes_of}
use Rattle.ifr_nodes.specs.Rules.{as_rule, is_rule}
use Rattle.hii_values.specs.Inputs.{number_of_bits}
use Rattle.hii_values.specs.Types.{is_signed}
use Rattle.hii_questions.specs.Fields.{Asked, Field, asked, question_with, questions}
use Rattle.opcode_audit.specs.Facts.{string_ids}
use Rattle.opcode_audit.specs.Walk.{opcodes_in}
use Rattle.check_audit.specs.Constants.{constant_warnings}
use Rattle.check_audit.specs.GivenDefaults.{default_warnings}
use Rattle.check_audit.specs.Lacks.{Lack, language_warnings}
use Rattle.check_audit.specs.Overlaps.{AreLaid, overlaps_among}
use Rattle.check_audit.specs.declared.overlaps.Laid.{Laid}
use Rattle.check_audit.specs.declared.warning.Oddity.{Oddity}
use Rattle.check_audit.specs.declared.warning.Oddity.TheVariants.{Asks, Bounds, Constant, Default, Language, Overlap, Text, Unreached}
use Rattle.check_audit.specs.declared.warning.Span.{Span}
use Rattle.check_audit.specs.declared.warning.Warning.{Warning}

-- ---- in which order they are told: by place, then word, then id

-- where a word stands among all words of warnings
abbrev pub rank_of : Oddity → ℕ
rank_of (Asks unanswered) = 0
rank_of (Bounds n) = 1
rank_of (Constant holds) = 2
rank_of (Default refused) = 3
rank_of (Language n) = 4
rank_of (Overlap sharing) = 5
rank_of (Text id) = 6
rank_of (Unreached form) = 7

-- of which id it is told, or of which number in the list
abbrev pub id_of : Oddity → ℕ
id_of (Asks unanswered) = unanswered.question
id_of (Bounds n) = 0
id_of (Constant holds) = 0
id_of (Default refused) = refused.question
id_of (Language n) = n
id_of (Overlap sharing) = sharing.question
id_of (Text id) = id
id_of (Unreached form) = form

abbrev pub order_of : Warning → ℕ
order_of w = (w.place * 8 + rank_of w.oddity) * 4294967296 + id_of w.oddity

-- ---- asks: a guard, a condition of a question, a rule or a VALUE names a question itself that has no answer (UEFI 2.8, 33.2.5.7
-- Expressions), at the opcode

-- whether there is a question that was looked for, where it has no field
abbrev pub without_field : Option Field → Option Bool
without_field None = Some true
without_field (Some field) = None

abbrev pub without_answer : Option Asked → Option Bool
without_answer None = Some false
without_answer (Some q) = without_field q.field

abbrev pub is_unanswered : List Node → ℕ → Option Bool
is_unanswered ns id = without_answer (option_map (asked ns) (question_with ns id))

abbrev pub asking : ℕ → ℕ → Bool → Warning
asking place id is_there = record { place = place; oddity = Asks record { question = id; is_there = is_there } }

abbrev pub asked_at : List Node → ℕ → ℕ → Option Warning
asked_at ns place id = option_map (asking place id) (is_unanswered ns id)

abbrev pub named_at : List Node → ℕ → Tree → List Warning
named_at ns place tree = filter_map (asked_at ns place) (support tree)

abbrev pub named_in : List Node → Node → List Warning
named_in ns n = named_at ns n.place (expression_tree n)

abbrev pub asks_of_guards : List Node → List Warning
asks_of_guards ns = flat_map (named_in ns) (filter (λ n. is_guard (number n.op)) ns)

abbrev pub asks_of_conditions : List Node → List Warning
asks_of_conditions ns = flat_map (named_in ns) (filter (λ n. is_condition_number (number n.op)) ns)

abbrev pub asks_of_rule : List Node → Node → List Warning
asks_of_rule ns n = named_at ns n.place (as_rule n).tree

abbrev pub asks_of_rules : List Node → List Warning
asks_of_rules ns = flat_map (asks_of_rule ns) (filter is_rule ns)

-- a VALUE stands right behind the DEFAULT whose value it is
abbrev pub named_by : List Node → ℕ → Option Tree → List Warning
named_by ns place None = []
named_by ns place (Some tree) = named_at ns place tree

abbrev pub asks_of_value : List Node → Node → List Warning
asks_of_value ns d = named_by ns (d.place + length d.op) (value_tree d)

abbrev pub asks_of_question : List Node → Node → List Warning
asks_of_question ns q = flat_map (asks_of_value ns) (defaults q)

abbrev pub asks_of_asked : List Node → Asked → List Warning
asks_of_asked ns q = asks_of_question ns q.node

abbrev pub asks_of_values : List Node → List Warning
asks_of_values ns = flat_map (asks_of_asked ns) (questions ns)

abbrev pub asks_warnings : List Node → List Warning
asks_warnings ns = asks_of_guards ns ++ asks_of_conditions ns ++ asks_of_rules ns ++ asks_of_values ns

-- ---- bounds: the least number, as it is shown, or the least length is above the greatest, so that nothing meets both (33.3.8.3,
-- EFI_IFR_NUMERIC, EFI_IFR_STRING and EFI_IFR_PASSWORD)

abbrev pub numeric_span : List ℕ → Span
numeric_span op = record {
  minimum = number_of_bits (is_signed (display op)) (numeric_width op) (numeric_minimum op);
  maximum = number_of_bits (is_signed (display op)) (numeric_width op) (numeric_maximum op);
}

abbrev pub span_of : Node → Option Span
span_of n =
    if number n.op == NUMERIC then Some (numeric_span n.op)
    else if number n.op == STRING
    then Some record { minimum = pos (string_minimum n.op); maximum = pos (string_maximum n.op) }
    else if number n.op == PASSWORD
    then Some record { minimum = pos (password_minimum n.op); maximum = pos (password_maximum n.op) }
    else None

abbrev pub if_crossed : Span → Option Span
if_crossed span = if int_lt span.maximum span.minimum then Some span else None

abbrev pub crossed_of : Node → Option Span
crossed_of n = option_and_then if_crossed (span_of n)

abbrev pub crossed_spans : List Node → List Span
crossed_spans ns = filter_map crossed_of (filter is_statement ns)

abbrev pub is_crossed : Node → Bool
is_crossed n = is_some (crossed_of n)

-- each with the number of its bounds among them, from this one on
abbrev pub numbered_bounds : ℕ → List Node → List Warning
numbered_bounds k [] = []
numbered_bounds k (n ∷ ns) = record { place = n.place; oddity = Bounds k } ∷ numbered_bounds (suc k) ns

abbrev pub bounds_warnings : List Node → List Warning
bounds_warnings ns = numbered_bounds 0 (filter is_crossed (filter is_statement ns))

-- ---- unreached: a form but the first that no reference names, wherever it stands (33.3.8.3, EFI_IFR_REF)

abbrev pub named_form : Node → Option ℕ
named_form n = if is_reference n then ref_target n.op else None

abbrev pub is_of_id : Option ℕ → ℕ → Bool
is_of_id None id = false
is_of_id (Some named) id = named == id

abbrev pub names_form : ℕ → Node → Bool
names_form id n = is_of_id (named_form n) id

abbrev pub is_named : List Node → ℕ → Bool
is_named ns id = list_any (names_form id) (filter is_statement ns)

abbrev pub unreached_at : (ℕ → Bool) → Node → Option Warning
unreached_at named form =
    if named (form_id form.op) then None
    else Some record { place = form.place; oddity = Unreached (form_id form.op) }

abbrev pub unreached_warnings : List Node → List Warning
unreached_warnings ns = filter_map (unreached_at (is_named ns)) (drop 1 (filter is_form ns))

-- ---- text: a string id that an opcode names and that has no text in the first string package, so that a page shows its number
-- (33.3.6 String Package), at the first opcode that names it

abbrev pub is_textless : List Spoken → ℕ → Bool
is_textless spoken id = not (id == 0) && is_none (text_in spoken id (Some 0))

abbrev pub textless_at : List Spoken → ℕ → ℕ → Option Warning
textless_at spoken place id =
    if is_textless spoken id then Some record { place = place; oddity = Text id } else None

-- of opcodes one behind the other, of which the first stands at a place
abbrev pub textless_among : List Spoken → ℕ → List (List ℕ) → List Warning
textless_among spoken place [] = []
textless_among spoken place (op ∷ ops) =
    filter_map (textless_at spoken place) (string_ids op) ++ textless_among spoken (place + length op) ops

-- each id once, where it is named first
abbrev pub is_of_other : Warning → Warning → Bool
is_of_other w v = not (id_of w.oddity == id_of v.oddity)

abbrev pub firsts : List Warning → List Warning
firsts [] = []
firsts (w ∷ ws) = w ∷ filter (is_of_other w) (firsts ws)

-- behind the header of four bytes
abbrev pub textless_warnings : List Spoken → List ℕ → List Warning
textless_warnings spoken ifr = firsts (textless_among spoken 4 (opcodes_in (drop 4 ifr)))

-- ---- all of them

-- those of nodes by themselves, by what the first string package says
abbrev pub node_warnings : List Spoken → List Node → List Warning
node_warnings spoken ns =
    asks_warnings ns ++ bounds_warnings ns ++ constant_warnings ns ++ default_warnings spoken ns ++ unreached_warnings ns

-- all warnings, by what further string packages lack, and where the fields are laid in this order
abbrev pub all_warnings : List Spoken → List Lack → List ℕ → List Laid → List Warning
all_warnings spoken lacks ifr laid =
    node_warnings spoken (nodes_of ifr) ++ overlaps_among laid ++ language_warnings lacks
    ++ textless_warnings spoken ifr

-- These are all warnings, in this order. Two of one place, word and id are the same.
pub record AreWarnings (spoken : List Spoken) (lacks : List Lack) (ifr : List ℕ) (ordered : List Warning) : Type 0 where
  pub laid : List Laid
  pub fields : AreLaid (nodes_of ifr) laid
  pub sorted : IsSortedByKey order_of nat_cmp ordered
  pub all : IsStableByKey order_of nat_cmp (all_warnings spoken lacks ifr laid) ordered
