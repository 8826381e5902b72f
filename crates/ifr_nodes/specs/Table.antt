-- What the rows of opcodes say of scopes: whether an opcode opens one, and what may stand in it (UEFI 2.8, 33.3.8.3 Opcode
-- Reference; which opcodes are known and what may stand where are own rules).
use Rattle.std.specs.Prelude.{ℕ, nat_le, length, Bool, false, not, ◌==◌, ◌||◌, ◌&&◌, if◌then◌else◌, Option, Some, None, option_map, List, filter}
use Rattle.std.specs.List.{last_or}
use Rattle.browser_rules.specs.Opcodes as rows
use Rattle.browser_rules.specs.Opcodes.{ScopeRule, always, at_will, never, unless_operand, with_type_other, of_form_set, of_form, of_text, of_question, of_choice, of_options, of_option, of_expression, of_nothing, row_of}
use Rattle.ifr_opcodes.specs.Fields.{default_kind}
use Rattle.ifr_opcodes.specs.Opcode.{number}
use Rattle.ifr_opcodes.specs.Rows.{is_operator, is_statement_number, is_store_number, is_condition_number, is_ignored}
use Rattle.ifr_opcodes.specs.Forest.{Ancestor}
use Rattle.ifr_opcodes.specs.declared.codes.TheConstants.{FORM, ONE_OF_OPTION, DEFAULT, DEFAULTSTORE, VALUE, RULE, LOCKED}
use Rattle.ifr_opcodes.specs.declared.kinds.TheConstants.{TYPE_OTHER}
use Rattle.ifr_nodes.specs.Guards.{is_guard}
use Rattle.ifr_nodes.specs.declared.table.OpcodeRow.{OpcodeRow}
use Rattle.ifr_nodes.specs.declared.table.Scope.{Scope}
use Rattle.ifr_nodes.specs.declared.table.Scope.TheVariants.{Always, Sometimes, Never, Outermost, WithValue}
use Rattle.ifr_nodes.specs.declared.table.Class.{Class}
use Rattle.ifr_nodes.specs.declared.table.Class.TheVariants.{OfFormSet, OfForm, OfText, OfQuestion, OfChoice, OfOptions, OfOption, OfExpression, OfNothing}

-- whether an opcode opens a scope, and what may stand in it, as the code has what a row says
abbrev pub scope_for : ScopeRule → Scope
scope_for always = Always
scope_for at_will = Sometimes
scope_for never = Never
scope_for unless_operand = Outermost
scope_for with_type_other = WithValue

abbrev pub class_for : rows.Class → Class
class_for of_form_set = OfFormSet
class_for of_form = OfForm
class_for of_text = OfText
class_for of_question = OfQuestion
class_for of_choice = OfChoice
class_for of_options = OfOptions
class_for of_option = OfOption
class_for of_expression = OfExpression
class_for of_nothing = OfNothing

-- the row of a number
unfoldable pub row : ℕ → Option OpcodeRow
row code = option_map (λ r. record { scope = scope_for r.scope; class = class_for r.opens }) (row_of code)

-- whether an opcode of this number begins with an expression: a guard and another condition with what is to hold, a rule and
-- a value with what they say
abbrev pub wants_expression : ℕ → Bool
wants_expression code = is_guard code || code == RULE || code == VALUE || is_condition_number code

-- whether an opcode begins with a VALUE: a default whose Type says so
abbrev pub wants_value : List ℕ → Bool
wants_value op = number op == DEFAULT && (nat_le 5 (length op) && (default_kind op == TYPE_OTHER))

-- whether an opcode of this number may stand in a scope of this class
abbrev pub admits : Class → ℕ → Bool
admits OfFormSet code =
    code == FORM || code == DEFAULTSTORE || is_store_number code || is_guard code || code == LOCKED
    || is_ignored code
admits OfForm code =
    code == RULE || is_statement_number code || is_guard code || code == LOCKED || is_ignored code
admits OfText code = code == LOCKED || is_ignored code
admits OfQuestion code =
    code == DEFAULT || is_condition_number code || code == LOCKED || is_ignored code
admits OfChoice code =
    code == ONE_OF_OPTION || is_guard code || code == DEFAULT || is_condition_number code
    || code == LOCKED || is_ignored code
admits OfOptions code = code == ONE_OF_OPTION || is_guard code || code == LOCKED || is_ignored code
admits OfOption code = is_ignored code
admits OfExpression code = is_operator code
admits OfNothing code = false

-- the class of the scope of an opcode with this row
abbrev pub class_of : Option OpcodeRow → Class
class_of None = OfNothing
class_of (Some r) = r.class

-- what a guard admits behind its condition: what may stand around it; among the options of a question, options alone
abbrev pub guarded : Class → Class
guarded OfChoice = OfOptions
guarded class = class

-- what stands on a path and is no guard
abbrev pub others_among : List Ancestor → List Ancestor
others_among path = filter (λ a. not (is_guard (number a.op))) path

-- what may stand in the scope of an opcode that is no guard, and nothing where there is none
abbrev pub class_in : Option Ancestor → Class
class_in None = OfNothing
class_in (Some a) = class_of (row (number a.op))

-- whether a scope is that of a guard
abbrev pub is_guard_scope : Option Ancestor → Bool
is_guard_scope None = false
is_guard_scope (Some a) = is_guard (number a.op)

-- What may stand in the innermost scope of a path: a guard covers what may stand around it, so this is what the innermost
-- opcode that is no guard admits, or, where the scope is a guard's, what that opcode admits in a guard.
abbrev pub class_around : List Ancestor → Class
class_around path =
    let class = class_in (last_or None (others_among path)) in
    if is_guard_scope (last_or None path) then guarded class else class
