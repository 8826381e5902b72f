-- The faults of nodes by themselves, where those of an expression's opcodes are left to their nodes.
use Rattle.std.specs.Prelude.{◌≡◌, ◌⊎◌, ℕ, true, List, [], Contains}
use Rattle.hii_bytes.specs.Faults.{HasNone}
use Rattle.hii_bytes.specs.declared.cause.Cause.{Cause}
use Rattle.hii_bytes.specs.declared.cause.Cause.TheVariants.{NotFormSet}
use Rattle.ifr_opcodes.specs.Forest.{Mark, Node}
use Rattle.ifr_expr.specs.Faults.{IsOpcodeFault, IsShapeFault}
use Rattle.ifr_expr.specs.Trees.{expression}
use Rattle.ifr_nodes.specs.Structure.{is_expression, IsNodeFault}

-- the opcodes of the expression at a node
abbrev pub opcodes_at : Node → List Mark
opcodes_at n = expression n.place n.op n.children

-- At a node stands an expression whose opcodes have no fault by themselves, and its shape has one.
abbrev pub HasShapeFault : Node → Cause → ℕ → Type 0
HasShapeFault n cause place =
    (is_expression n ≡ true) × HasNone (IsOpcodeFault n.place (opcodes_at n))
    × IsShapeFault n.place (opcodes_at n) cause place

-- There is no opcode at all, or a node has a fault, or the shape of an expression.
abbrev pub IsOwnFault : List Node → Cause → ℕ → Type 0
IsOwnFault ns cause place =
    ((ns ≡ []) × (cause ≡ NotFormSet) × (place ≡ 4))
    ⊎ (IsNodeFault ns cause place ⊎ ((n : Node) × Contains ns n × HasShapeFault n cause place))

-- What the opcodes of expressions have by themselves, some node has as well.
abbrev pub AreToldAtNodes : List Node → Type 0
AreToldAtNodes ns =
    (n : Node) → Contains ns n → is_expression n ≡ true → (cause : Cause) (place : ℕ)
    → IsOpcodeFault n.place (opcodes_at n) cause place → IsNodeFault ns cause place
