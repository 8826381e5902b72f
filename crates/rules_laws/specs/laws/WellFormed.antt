-- A well-formed form set, said of each node by its parent and its children (UEFI 2.8, 33.3.8.3 Opcode Reference; what may stand
-- where is an own rule, read off the tables).
use Rattle.std.specs.Prelude.{◌≡◌, ℕ, ◌+◌, true, false, Some, if◌then◌else◌, List, length, ⊤}
use Rattle.ifr_opcodes.specs.declared.codes.TheConstants.{FORM_SET, VALUE}
use Rattle.ifr_opcodes.specs.Forest.{Forest, none, node, flat}
use Rattle.ifr_opcodes.specs.Opcode.{number, has_scope}
use Rattle.ifr_opcodes.specs.Rows.{is_outside, is_short}
use Rattle.ifr_nodes.specs.Guards.{is_guard}
use Rattle.ifr_nodes.specs.Table.{row, admits, class_of, guarded, wants_expression, wants_value}
use Rattle.ifr_nodes.specs.declared.table.Class.{Class}
use Rattle.ifr_nodes.specs.declared.table.Class.TheVariants.{OfFormSet, OfNothing}
use Rattle.ifr_nodes.specs.declared.table.OpcodeRow.{OpcodeRow}
use Rattle.ifr_nodes.specs.declared.table.Scope.{Scope}
use Rattle.ifr_nodes.specs.declared.table.Scope.TheVariants.{Always, Sometimes, Never, Outermost, WithValue}
use Rattle.rules_laws.specs.laws.Expressions.{IsGoodExpression}

-- The opcode has Scope, or has none, as its row says. That of an expression's first operator may have it.
abbrev pub FitsScope : Scope → List ℕ → Type 0
FitsScope Always op = has_scope op ≡ true
FitsScope Sometimes op = ⊤
FitsScope Never op = has_scope op ≡ false
FitsScope Outermost op = ⊤
FitsScope WithValue op = has_scope op ≡ wants_value op

-- An opcode is known and not left out, has all its fields, and has Scope as its row says.
pub record IsGoodOpcode (op : List ℕ) : Type 0 where
  pub known : is_outside op ≡ false
  pub long : is_short op ≡ false
  pub in_table : OpcodeRow
  pub found : row (number op) ≡ Some in_table
  pub scoped : FitsScope in_table.scope op

-- with what a scope begins
pub data Beginning : Type 0 where
  an_expression : Beginning
  a_value : Beginning
  nothing_first : Beginning

abbrev pub wanted_by : List ℕ → Beginning
wanted_by op =
    if wants_expression (number op) then an_expression
    else (if wants_value op then a_value else nothing_first)

-- the class of what may stand in the scope of an opcode that stands in one of this class, behind what it begins with
abbrev pub class_inside : Class → List ℕ → Class
class_inside around op =
    if is_guard (number op) then guarded around else class_of (row (number op))

-- A forest, whose first node stands at a place, stands in a scope of a class: it begins with what the scope wants, one
-- expression or one VALUE, and each other node is a good opcode that the class admits, around nodes that stand in its scope.
abbrev pub StandsIn : Beginning → Class → ℕ → Forest → Type 0
StandsIn wanted class place none = wanted ≡ nothing_first
StandsIn an_expression class place (node op children rest) =
    IsGoodExpression place op children
    × StandsIn nothing_first class (place + length (flat (node op children none))) rest
StandsIn a_value class place (node op children rest) =
    (number op ≡ VALUE)
    × (IsGoodOpcode op
    × (StandsIn an_expression OfNothing (place + length op) children
    × StandsIn nothing_first class (place + length (flat (node op children none))) rest))
StandsIn nothing_first class place (node op children rest) =
    (admits class (number op) ≡ true)
    × (IsGoodOpcode op
    × (StandsIn (wanted_by op) (class_inside class op) (place + length op) children
    × StandsIn nothing_first class (place + length (flat (node op children none))) rest))

-- The forest is one FORM_SET, the first opcode of its package, around nodes that stand in its scope.
abbrev pub IsFormSet : Forest → Type 0
IsFormSet none = ⊥
IsFormSet (node op children rest) =
    (number op ≡ FORM_SET)
    × (IsGoodOpcode op × (StandsIn nothing_first OfFormSet (4 + length op) children × (rest ≡ none)))
