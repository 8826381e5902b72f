-- Expressions and their values, by a stack as the standard has it (UEFI 2.8, 33.2.5.7 Expressions and 33.3.8.3; which
-- rule a reference names is an own rule).
use Rattle.std.specs.Prelude.{ℕ, ◌+◌, Bool, ◌==◌, ◌&&◌, nat_lt, nat_le, if◌then◌else◌, option_map, unwrap_or, List, []}
use Rattle.std.specs.Prelude.{◌∷◌, length}
use Rattle.browser_rules.specs.Words.{first}
use Rattle.browser_rules.specs.Values.{Value, undefined, Around}
use Rattle.browser_rules.specs.Opcodes.{Sense, no_operator, leaf, one, two, number, row_of}
use Rattle.browser_rules.specs.Forest.{Forest, none, node, flat}

-- ---- the opcodes of an expression, each at its place: the one that stands there and, in order, what is in its scope

pub record Mark : Type 0 where
  pub place : ℕ
  pub op : List ℕ

abbrev pub siblings : ℕ → Forest → List Mark
siblings at none = []
siblings at (node op children rest) =
    record { place = at; op = op } ∷ siblings (at + length (flat (node op children none))) rest

abbrev pub expression : ℕ → List ℕ → Forest → List Mark
expression at op children = record { place = at; op = op } ∷ siblings (at + length op) children

-- the one that a scope at a place begins with
abbrev pub expression_in : ℕ → Forest → List Mark
expression_in at none = []
expression_in at (node op children rest) = expression at op children

-- ---- its value: each operator takes its operands from a stack, the right one from the top, and puts its value there

abbrev pub sense_of : List ℕ → Sense
sense_of op = unwrap_or (option_map (λ r. r.sense) (row_of (number op))) no_operator

abbrev pub pushed : Sense → Around → List ℕ → List Value → List Value
pushed (leaf makes) around op values = makes around op ∷ values
pushed (one makes) around op (v ∷ values) = makes v ∷ values
pushed (two makes) around op (right ∷ left ∷ values) = makes left right ∷ values
pushed _ around op values = values

-- over the answers of questions, the value that the rule of an id has for a place, and the id of the question around it
abbrev pub stack_over : (ℕ → Value) → (ℕ → ℕ → Value) → ℕ → List Value → List Mark → List Value
stack_over answers rules this values [] = values
stack_over answers rules this values (m ∷ ms) =
    let around : Around = record { answers = answers; rule = λ id. rules id m.place; this = this } in
    stack_over answers rules this (pushed (sense_of m.op) around m.op values) ms

abbrev pub value_over : (ℕ → Value) → (ℕ → ℕ → Value) → ℕ → List Mark → Value
value_over answers rules this ms = unwrap_or (first (stack_over answers rules this [] ms)) undefined

-- ---- rules: the id of each, where its scope ends, where that of its form does, and its expression

pub record Rule : Type 0 where
  pub id : ℕ
  pub ends : ℕ
  pub form_ends : ℕ
  pub opcodes : List Mark

-- A reference at a place may name the rules of its id, outside of forms none, that end before it in its form.
abbrev pub is_named : ℕ → ℕ → Rule → Bool
is_named id place r = r.id == id && nat_le r.ends place && nat_lt place r.form_ends

-- It names the latest of these, which stands first. THIS in a rule has no answer.
unfoldable pub rule_value : List Rule → (ℕ → Value) → ℕ → ℕ → Value
rule_value [] answers id place = undefined
rule_value (r ∷ earlier) answers id place =
    if is_named id place r then value_over answers (rule_value earlier answers) 0 r.opcodes
    else rule_value earlier answers id place

abbrev pub value_of : List Rule → (ℕ → Value) → ℕ → List Mark → Value
value_of rules answers this ms = value_over answers (rule_value rules answers) this ms
