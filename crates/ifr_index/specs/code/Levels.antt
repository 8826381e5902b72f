-- The scopes that are open in the walk that makes an index, and what is known of a node that it meets.
use Rattle.std.specs.Prelude.{◌≡◌, ℕ, ◌+◌, ◌<◌, ◌^◌, Bool, true, false, not, ◌&&◌, is_some, Option, Some, None, List, [], length, take, slice_index_or}
use Rattle.hii_bytes.specs.Faults.{HasNone}
use Rattle.hii_bytes.specs.declared.cause.Cause.TheVariants.{NotFormSet, AfterFormSet, Misplaced}
use Rattle.ifr_opcodes.specs.Forest.{Forest, Mark, Ancestor, Node, SpellsForest}
use Rattle.ifr_opcodes.specs.Opcode.{number}
use Rattle.ifr_opcodes.specs.Reading.{tree_of}
use Rattle.ifr_opcodes.specs.code.Ops.{bytes_of}
use Rattle.ifr_opcodes.specs.declared.op.Op.{Op}
use Rattle.ifr_expr.specs.Faults.{IsExpressionFault}
use Rattle.ifr_expr.specs.Trees.{expression}
use Rattle.ifr_nodes.specs.Nodes.{nodes_of, this_among}
use Rattle.ifr_nodes.specs.Structure.{innermost, is_expression, has_structure_fault}
use Rattle.ifr_nodes.specs.Table.{class_around, wants_value}
use Rattle.ifr_nodes.specs.code.Causes.{least_cause}
use Rattle.ifr_nodes.specs.code.Checked.{IsAt, node_in}
use Rattle.ifr_index.specs.code.Tables.{inner_guard}
use Rattle.ifr_index.specs.declared.level.Level.{Level}

-- ---- of the innermost scope: the place of its opcode, where what stands in it begins, the opcode's number, and whether it is
-- to begin with a VALUE

abbrev pub scope_place : Option Mark → ℕ
scope_place None = 0
scope_place (Some a) = a.place

abbrev pub scope_inside : Option Mark → ℕ
scope_inside None = 0
scope_inside (Some a) = a.place + length a.op

abbrev pub scope_code : Option Mark → ℕ
scope_code None = 0
scope_code (Some a) = number a.op

abbrev pub scope_value : Option Mark → Bool
scope_value None = false
scope_value (Some a) = wants_value a.op

-- the innermost scope of a path
abbrev pub level_of : List Node → List Ancestor → Level
level_of ns path =
    record {
      place = scope_place (innermost path);
      inside = scope_inside (innermost path);
      code = scope_code (innermost path);
      value = scope_value (innermost path);
      class = class_around path;
      guard = inner_guard ns path;
      this = this_among path;
    }

-- These are the scopes of a path, the outermost first.
pub record AreLevels (ns : List Node) (path : List Ancestor) (levels : List Level) : Type 0 where
  pub long : length levels ≡ length path
  pub each : (k : ℕ) → k < length path
      → slice_index_or levels k (level_of ns []) ≡ level_of ns (take (k + 1) path)

-- ---- a node that is met

-- an opcode as a node
abbrev pub node_with : Op → List Ancestor → Forest → Node
node_with op path children =
    record { place = op.place; op = bytes_of op; path = path; children = children }

-- whether a node has no fault by itself
abbrev pub is_clear : Node → Bool
is_clear n = not (is_some (least_cause n))

-- whether a node may stand where it stands
abbrev pub is_placed : Node → Bool
is_placed n =
    not (has_structure_fault n NotFormSet)
    && (not (has_structure_fault n AfterFormSet) && not (has_structure_fault n Misplaced))

-- A node with this opcode stands in the package, and this is the innermost scope around it.
pub record IsMet (ifr : List ℕ) (op : Op) (level : Level) : Type 0 where
  pub small : length ifr < 2 ^ 32
  pub spelled : SpellsForest ifr (tree_of ifr)
  pub stands : IsAt ifr op.place (bytes_of op)
  pub around : level ≡ level_of (nodes_of ifr) (node_in ifr op.place).path

-- A node has no fault by itself, and what stands at it, where that is an expression, has none.
pub record IsPassed (n : Node) : Type 0 where
  pub clear : is_clear n ≡ true
  pub expression : is_expression n ≡ true
      → HasNone (IsExpressionFault n.place (expression n.place n.op n.children))
