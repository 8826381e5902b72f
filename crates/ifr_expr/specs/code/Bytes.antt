-- The bytes of an expression, cut into opcodes.
use Rattle.std.specs.Prelude.{◌≡◌, ℕ, ◌+◌, true, if◌then◌else◌, List, [], ◌∷◌, length, take, drop}
use Rattle.std.specs.List.{concat, AllByRecursion}
use Rattle.ifr_opcodes.specs.Opcode.{stated_length, number, is_end, IsWhole}
use Rattle.ifr_opcodes.specs.Rows.{is_operator}
use Rattle.ifr_opcodes.specs.Forest.{Forest, none, node, flat, AreNodes, Mark}
use Rattle.ifr_opcodes.specs.Reading.{opcodes_in}
use Rattle.ifr_opcodes.specs.code.Marks.{inside}
use Rattle.ifr_expr.specs.Trees.{expression}

-- the opcode at the front of some bytes, and the children of its node
abbrev pub front : List ℕ → List ℕ
front bytes = take (stated_length bytes) bytes

abbrev pub children : List ℕ → Forest
children bytes = inside (front bytes) (opcodes_in (drop (length (front bytes)) bytes))

-- The bytes are those of one node, which is an operator's.
pub record IsExpressionNode (bytes : List ℕ) : Type 0 where
  pub are_nodes : AreNodes (node (front bytes) (children bytes) none)
  pub spelled : bytes ≡ flat (node (front bytes) (children bytes) none)
  pub operator : is_operator (number (front bytes)) ≡ true

-- the opcodes of the expression at a place that has these bytes
abbrev pub opcodes_of : ℕ → List ℕ → List Mark
opcodes_of at bytes = expression at (front bytes) (children bytes)

-- the opcodes up to the first END, the first of them at a place
unfoldable pub to_end : ℕ → List (List ℕ) → List Mark
to_end at [] = []
to_end at (op ∷ ops) =
    if is_end op then [] else record { place = at; op = op } ∷ to_end (at + length op) ops

-- The bytes are whole opcodes.
pub record AreOpcodes (bytes : List ℕ) : Type 0 where
  pub whole : AllByRecursion IsWhole (opcodes_in bytes)
  pub joined : concat (opcodes_in bytes) ≡ bytes
