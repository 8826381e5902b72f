-- Which commands are tried for a question: `set` of the questions that its conditions ask (own rule).
use Rattle.std.specs.Prelude.{ℕ, ℤ, pos, ◌+ℤ◌, ◌-ℤ◌, ◌^◌, ◌==◌, nat_lt, Bool, if◌then◌else◌, is_ok, is_some, Option, Some, None, List, [], ◌∷◌, filter, map}
use Rattle.std.specs.List.{flat_map}
use Rattle.std.specs.Ordering.{int_cmp, int_eq, nat_cmp}
use Rattle.browser_rules.specs.Script as script
use Rattle.browser_rules.specs.Script.{Command}
use Rattle.ifr_opcodes.specs.declared.codes.TheConstants.{CHECKBOX, NUMERIC, ONE_OF}
use Rattle.ifr_opcodes.specs.Fields.{display, numeric_maximum, numeric_minimum, numeric_width}
use Rattle.ifr_opcodes.specs.Forest.{Node}
use Rattle.ifr_opcodes.specs.Opcode.{number}
use Rattle.ifr_opcodes.specs.Rows.{is_among}
use Rattle.ifr_nodes.specs.Nodes.{options}
use Rattle.hii_values.specs.Inputs.{number_of_bits, whole}
use Rattle.hii_values.specs.Types.{is_signed, option_values, type_of}
use Rattle.hii_questions.specs.Fields.{Asked, asked, question_with}
use Rattle.hii_questions.specs.Fits.{fits_field}
use Rattle.guard_policy.specs.Conditions.{condition_ids}
use Rattle.unlock_audit.specs.Asking.{Asking}
use Rattle.unlock_audit.specs.Constants.{constants}
use Rattle.unlock_audit.specs.Rising.{once, rising}
use Rattle.unlock_audit.specs.declared.moves.Move.{Move}

-- the question of an id is to have a value: as a command
abbrev pub command : Move → Command
command m = script.Set m.id m.value

-- ---- the values of a ONE_OF: those of its options by place, once

abbrev pub one_of_values : Node → List ℤ
one_of_values n = once int_eq (map (λ k. pos k) (option_values (options n)))

-- ---- of a NUMERIC, rising: its bounds, and each constant of a condition that asks it, with its neighbours, as far as it takes them

-- bits as it reads them: where it is shown with a sign as two's complement
abbrev pub as_read : Node → ℕ → ℤ
as_read n bits = number_of_bits (is_signed (display n.op)) (numeric_width n.op) bits

-- a constant as it is, and where the field can hold it as it is read there
abbrev pub meanings : Node → ℕ → List ℤ
meanings n k = pos k ∷ (if nat_lt k (256 ^ numeric_width n.op) then as_read n k ∷ [] else [])

abbrev pub near : ℤ → List ℤ
near k = (k -ℤ pos 1) ∷ k ∷ (k +ℤ pos 1) ∷ []

abbrev pub near_constant : Node → ℕ → List ℤ
near_constant n k = flat_map near (meanings n k)

abbrev pub takes : Asked → ℤ → Bool
takes q value = is_ok (fits_field (type_of q.node) q.field (whole value))

abbrev pub numbers_near : Node → List ℕ → List ℤ
numbers_near n ks =
    as_read n (numeric_minimum n.op) ∷ as_read n (numeric_maximum n.op) ∷ flat_map (near_constant n) ks

abbrev pub numeric_values : Asked → List ℕ → List ℤ
numeric_values q ks = rising int_cmp (filter (takes q) (numbers_near q.node ks))

-- ---- of each question: both of a CHECKBOX, and of no others

abbrev pub values_of : Asked → List ℕ → List ℤ
values_of q ks =
    if number q.node.op == CHECKBOX then pos 0 ∷ pos 1 ∷ []
    else if number q.node.op == ONE_OF then one_of_values q.node
    else if number q.node.op == NUMERIC then numeric_values q ks
    else []

-- ---- the commands: for each id whose question has a field, rising

-- the constants of those of some conditions that ask an id
abbrev pub asks : List Node → ℕ → Node → Bool
asks ns id c = is_among id (condition_ids ns c)

abbrev pub constants_about : List Node → List Node → ℕ → List ℕ
constants_about ns conditions id = flat_map (constants ns) (filter (asks ns id) conditions)

abbrev pub moved : ℕ → ℤ → Move
moved id value = record { id = id; value = value }

abbrev pub moves_with : List Node → List Node → ℕ → Asked → List Move
moves_with ns conditions id q =
    if is_some q.field then map (moved id) (values_of q (constants_about ns conditions id)) else []

abbrev pub moves_among : List Node → List Node → ℕ → Option Node → List Move
moves_among ns conditions id None = []
moves_among ns conditions id (Some n) = moves_with ns conditions id (asked ns n)

abbrev pub moves_of : List Node → List Node → ℕ → List Move
moves_of ns conditions id = moves_among ns conditions id (question_with ns id)

abbrev pub moves : List Node → Asking → List Move
moves ns a = flat_map (moves_of ns a.conditions) (rising nat_cmp a.ids)
