-- Values, scopes and operators of the crates as the chapters have them.
use Rattle.std.specs.Prelude.{ℕ, ◌<◌, ◌^◌, List, map, ⊤}
use Rattle.std.specs.List.{AllByRecursion}
use Rattle.browser_rules.specs.Expressions as expressions
use Rattle.browser_rules.specs.Opcodes as rows
use Rattle.browser_rules.specs.Opcodes.{Sense, leaf, one, two}
use Rattle.browser_rules.specs.Values as rules
use Rattle.browser_rules.specs.Values.{Around}
use Rattle.hii_bytes.specs.Numbers.{AreBytes}
use Rattle.ifr_opcodes.specs.Forest.{Mark}
use Rattle.ifr_expr.specs.Meaning.{Rule}
use Rattle.ifr_expr.specs.Trees.{post, IsFitting}
use Rattle.ifr_expr.specs.Values as values
use Rattle.ifr_expr.specs.Values.{Value}
use Rattle.ifr_nodes.specs.declared.table.Class.{Class}
use Rattle.ifr_nodes.specs.declared.table.Class.TheVariants.{OfFormSet, OfForm, OfText, OfQuestion, OfChoice, OfOptions, OfOption, OfExpression, OfNothing}

-- a value as one of the chapters
abbrev pub value_for : Value → rules.Value
value_for values.undefined = rules.undefined
value_for (values.boolean b) = rules.boolean b
value_for (values.natural n) = rules.natural n
value_for (values.text units) = rules.text units
value_for (values.buffer bytes) = rules.buffer bytes

-- what is around an operator at a place, by the value that the rule of an id has there, the answers of questions, and the id of
-- the question in whose scope it stands
abbrev pub around_at : (ℕ → ℕ → Value) → (ℕ → Value) → ℕ → ℕ → Around
around_at rule_values answers this place =
    record { answers = λ id. value_for (answers id); rule = λ id. value_for (rule_values id place); this = this }

-- what an operator makes of what is around it and its bytes, of one operand, and of two
abbrev pub made_of_none : Sense → Around → List ℕ → rules.Value
made_of_none (leaf makes) around op = makes around op
made_of_none _ around op = rules.undefined

abbrev pub made_of_one : Sense → rules.Value → rules.Value
made_of_one (one makes) v = makes v
made_of_one _ v = rules.undefined

abbrev pub made_of_two : Sense → rules.Value → rules.Value → rules.Value
made_of_two (two makes) left right = makes left right
made_of_two _ left right = rules.undefined

-- A number has at most 64 bits.
abbrev pub IsSmall : Value → Type 0
IsSmall (values.natural n) = n < 2 ^ 64
IsSmall _ = ⊤

-- an opcode at its place, and a rule with the opcodes of its expression
abbrev pub mark_for : Mark → expressions.Mark
mark_for m = record { place = m.place; op = m.op }

abbrev pub rule_for : Rule → expressions.Rule
rule_for r = record { id = r.id; ends = r.ends; form_ends = r.form_ends; opcodes = map mark_for (post r.tree) }

-- Opcodes are bytes.
abbrev pub AreOfBytes : List Mark → Type 0
AreOfBytes marks = AllByRecursion (λ m. AreBytes m.op) marks

-- The expressions of rules are trees of operators that have as many operands as they take, and their opcodes are bytes.
abbrev pub AreGoodRules : List Rule → Type 0
AreGoodRules rs = AllByRecursion (λ r. IsFitting r.tree × AreOfBytes (post r.tree)) rs

-- what may stand in a scope
abbrev pub class_for : Class → rows.Class
class_for OfFormSet = rows.of_form_set
class_for OfForm = rows.of_form
class_for OfText = rows.of_text
class_for OfQuestion = rows.of_question
class_for OfChoice = rows.of_choice
class_for OfOptions = rows.of_options
class_for OfOption = rows.of_option
class_for OfExpression = rows.of_expression
class_for OfNothing = rows.of_nothing
