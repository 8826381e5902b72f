-- What is wrong with a node, as its opcode, its ancestors and its first child tell, and with the expression that stands at
-- it (own rule).
use Rattle.std.specs.Prelude.{◌≡◌, ◌⊎◌, ℕ, ◌+◌, Bool, true, false, ◌==◌, ◌&&◌, ◌||◌, not, if◌then◌else◌, Option, Some, None, option_map, List, [], length, Contains}
use Rattle.std.specs.List.{last_or}
use Rattle.hii_bytes.specs.Faults.{IsFaultOf}
use Rattle.hii_bytes.specs.declared.cause.Cause.{Cause}
use Rattle.hii_bytes.specs.declared.cause.Cause.TheVariants.{NotFormSet, AfterFormSet, OpOutside, OpSize, Misplaced, ScopeBit, ExprShape}
use Rattle.ifr_opcodes.specs.Opcode.{number, has_scope}
use Rattle.ifr_opcodes.specs.Fields.{is_listed, is_outside, is_short}
use Rattle.ifr_opcodes.specs.Rows.{is_operator}
use Rattle.ifr_opcodes.specs.Forest.{Forest, none, node, Mark, Ancestor, Node}
use Rattle.ifr_opcodes.specs.declared.codes.TheConstants.{FORM_SET, VALUE}
use Rattle.ifr_expr.specs.Faults.{IsExpressionFault}
use Rattle.ifr_expr.specs.Trees.{expression}
use Rattle.ifr_nodes.specs.Table.{row, wants_expression, wants_value, admits, class_around}
use Rattle.ifr_nodes.specs.declared.table.OpcodeRow.{OpcodeRow}
use Rattle.ifr_nodes.specs.declared.table.Scope.{Scope}
use Rattle.ifr_nodes.specs.declared.table.Scope.TheVariants.{Always, Sometimes, Never, Outermost, WithValue}

abbrev pub is_root : Node → Bool
is_root n = length n.path == 0

-- the opcode of the innermost of a path
abbrev pub innermost : List Ancestor → Option Mark
innermost path = option_map (λ a. record { place = a.place; op = a.op }) (last_or None path)

-- the opcode in whose scope a node stands
abbrev pub parent : Node → Option Mark
parent n = innermost n.path

-- whether something stands at a place, in the scope of an opcode, right behind the opcode
abbrev pub stands_first : ℕ → Mark → Bool
stands_first place a = place == a.place + length a.op

-- whether what stands at a place, in the scope of an opcode, is to be the expression with which that begins
abbrev pub begins_scope : ℕ → Option Mark → Bool
begins_scope place None = false
begins_scope place (Some a) = wants_expression (number a.op) && stands_first place a

abbrev pub is_condition : Node → Bool
is_condition n = begins_scope n.place (parent n)

-- or the VALUE with which it begins
abbrev pub begins_with_value : ℕ → Option Mark → Bool
begins_with_value place None = false
begins_with_value place (Some a) = wants_value a.op && stands_first place a

-- whether a node is what the scope around it is to begin with
abbrev pub is_wanted : Node → Bool
is_wanted n = is_condition n || begins_with_value n.place (parent n)

-- whether a scope is that of an operator, in which the other opcodes of its expression stand
abbrev pub is_operator_scope : Option Mark → Bool
is_operator_scope None = false
is_operator_scope (Some a) = is_operator (number a.op)

abbrev pub is_operand : Node → Bool
is_operand n = is_operator_scope (parent n)

-- whether it is wrong that an opcode has Scope, or has none, where it stands in the scope of an operator or does not
abbrev pub is_wrong_scope : Scope → Bool → List ℕ → Bool
is_wrong_scope Always operand op = not (has_scope op)
is_wrong_scope Sometimes operand op = false
is_wrong_scope Never operand op = has_scope op
is_wrong_scope Outermost operand op = operand && has_scope op
is_wrong_scope WithValue operand op = if wants_value op then not (has_scope op) else has_scope op

abbrev pub has_wrong_scope : Option OpcodeRow → Bool → List ℕ → Bool
has_wrong_scope None operand op = false
has_wrong_scope (Some r) operand op = is_wrong_scope r.scope operand op

-- the number of the first opcode of a forest
abbrev pub first_number : Forest → Option ℕ
first_number none = None
first_number (node op children rest) = Some (number op)

-- Where an expression is wanted nothing stands, or another opcode that is known.
abbrev pub lacks_expression : Option ℕ → Bool
lacks_expression None = true
lacks_expression (Some code) = is_listed code && not (is_operator code)

-- Or where a VALUE is.
abbrev pub lacks_value : Option ℕ → Bool
lacks_value None = true
lacks_value (Some code) = is_listed code && not (code == VALUE)

-- An opcode does not begin with what it wants.
abbrev pub lacks_wanted : List ℕ → Forest → Bool
lacks_wanted op children =
    (wants_expression (number op) && lacks_expression (first_number children))
    || (wants_value op && lacks_value (first_number children))

-- the rows of the table of faults
abbrev pub has_structure_fault : Node → Cause → Bool
has_structure_fault n NotFormSet = (n.place == 4) && not (number n.op == FORM_SET)
has_structure_fault n AfterFormSet = is_root n && not (n.place == 4)
has_structure_fault n OpOutside = is_outside n.op
has_structure_fault n OpSize = is_short n.op
has_structure_fault n Misplaced =
    not (is_root n) && (not (is_wanted n) && not (admits (class_around n.path) (number n.op)))
has_structure_fault n ScopeBit = has_wrong_scope (row (number n.op)) (is_operand n) n.op
has_structure_fault n ExprShape = lacks_wanted n.op n.children
has_structure_fault n _ = false

-- the faults of the nodes, each at its place
abbrev pub IsNodeFault : List Node → Cause → ℕ → Type 0
IsNodeFault ns = IsFaultOf (λ (n : Node). n.place) has_structure_fault ns

-- whether an expression stands at a node
abbrev pub is_expression : Node → Bool
is_expression n = is_condition n && is_operator (number n.op)

-- the faults of the expressions
abbrev pub IsFaultOfExpression : List Node → Cause → ℕ → Type 0
IsFaultOfExpression ns cause place =
    (n : Node) × Contains ns n × (is_expression n ≡ true)
    × IsExpressionFault n.place (expression n.place n.op n.children) cause place

-- There is no opcode at all, or a node has a fault, or an expression.
abbrev pub IsStructureFault : List Node → Cause → ℕ → Type 0
IsStructureFault ns cause place =
    ((ns ≡ []) × (cause ≡ NotFormSet) × (place ≡ 4))
    ⊎ (IsNodeFault ns cause place ⊎ IsFaultOfExpression ns cause place)
