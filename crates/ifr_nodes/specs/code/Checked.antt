-- The nodes at the places of a checked package.
use Rattle.std.specs.Prelude.{◌≡◌, ℕ, Bool, true, ◌&&◌, Option, Some, None, is_some, All, List, []}
use Rattle.std.specs.Coded.{×_prop, Unit-prop}
use Rattle.std.proofs.Props.{props}
use Rattle.ifr_opcodes.specs.Opcode.{number}
use Rattle.ifr_opcodes.specs.code.Props.{IsWhole-prop}
use Rattle.ifr_opcodes.specs.Forest.{Forest, Forest-set, none, node, IsNode, AreNodes, Ancestor, Node, node_at}
use Rattle.ifr_nodes.specs.Guards.{is_guard}
use Rattle.ifr_nodes.specs.Nodes.{nodes_of, is_form, is_statement}
use Rattle.ifr_nodes.specs.Checked.{IsChecked}
use Rattle.ifr_nodes.specs.Accepted.{IsAccepted}

bytes_set : IsSet (List ℕ)
bytes_set = hlevel props

forest_prop : (f g : Forest) → IsProp (f ≡ g)
forest_prop f g = Forest-set bytes_set f g

IsNode-prop : (op : List ℕ) (children : Forest) → IsProp (IsNode op children)
IsNode-prop op children = hlevel (props, IsWhole-prop, forest_prop)

AreNodes-prop : (f : Forest) → IsProp (AreNodes f)
AreNodes-prop none = Unit-prop
AreNodes-prop (node op children rest) =
    ×_prop (IsNode-prop op children) (×_prop (AreNodes-prop children) (AreNodes-prop rest))

pub IsChecked-prop : (bytes : List ℕ) → IsProp (IsChecked bytes)
IsChecked-prop bytes = hlevel (props, AreNodes-prop)

-- the node at a place of a package; where there is none, one without bytes
abbrev pub or_empty : Option Node → Node
or_empty None = record { place = 0; op = []; path = []; children = none }
or_empty (Some n) = n

unfoldable pub node_in : List ℕ → ℕ → Node
node_in bytes place = or_empty (node_at (nodes_of bytes) place)

-- A node with this opcode stands at this place of the package.
pub record IsAt (bytes : List ℕ) (place : ℕ) (op : List ℕ) : Type 0 where
  pub there : is_some (node_at (nodes_of bytes) place) ≡ true
  pub placed : (node_in bytes place).place ≡ place
  pub opcode : (node_in bytes place).op ≡ op

pub IsAt-prop : (bytes : List ℕ) (place : ℕ) (op : List ℕ) → IsProp (IsAt bytes place op)
IsAt-prop bytes place op = hlevel props

-- these nodes, as far as place and opcode tell, stand in the package
abbrev pub AreAt : List ℕ → List Node → Type 0
AreAt bytes ns = All (λ n. IsAt bytes n.place n.op) ns

pub AreAt-prop : (bytes : List ℕ) (ns : List Node) → IsProp (AreAt bytes ns)
AreAt-prop bytes ns = hlevel (props, IsAt-prop)

-- a node stands at this place of the package
abbrev pub has_node : List ℕ → ℕ → Bool
has_node bytes place = is_some (node_at (nodes_of bytes) place)

-- a guard stands at this place of the package
abbrev pub has_guard : List ℕ → ℕ → Bool
has_guard bytes place = has_node bytes place && is_guard (number (node_in bytes place).op)

-- a form stands at this place of the package
abbrev pub has_form : List ℕ → ℕ → Bool
has_form bytes place = has_node bytes place && is_form (node_in bytes place)

-- a statement stands at this place of the package
abbrev pub has_statement : List ℕ → ℕ → Bool
has_statement bytes place = has_node bytes place && is_statement (node_in bytes place)

ancestor_prop : (a b : Ancestor) → IsProp (a ≡ b)
ancestor_prop a b = hlevel (props, forest_prop)

placed_prop : (n m : Node) → IsProp (n ≡ m)
placed_prop n m = hlevel (props, forest_prop, ancestor_prop)

pub nodes_prop : (ns ms : List Node) → IsProp (ns ≡ ms)
nodes_prop ns ms = hlevel (props, forest_prop, ancestor_prop, placed_prop)

-- the node is the one at its place in the package
abbrev pub IsNodeOf : List ℕ → Node → Type 0
IsNodeOf bytes n = node_at (nodes_of bytes) n.place ≡ Some n

pub IsNodeOf-prop : (bytes : List ℕ) (n : Node) → IsProp (IsNodeOf bytes n)
IsNodeOf-prop bytes n = hlevel (props, forest_prop, ancestor_prop, placed_prop)

abbrev pub AreNodesOf : List ℕ → List Node → Type 0
AreNodesOf bytes ns = All (λ n. IsNodeOf bytes n) ns

pub AreNodesOf-prop : (bytes : List ℕ) (ns : List Node) → IsProp (AreNodesOf bytes ns)
AreNodesOf-prop bytes ns = hlevel (props, IsNodeOf-prop)

pub IsAccepted-prop : (bytes : List ℕ) → IsProp (IsAccepted bytes)
IsAccepted-prop bytes = hlevel (props, IsChecked-prop)
