-- What a walk meets.
use Rattle.std.specs.Prelude.{◌≡◌, ◌≤◌, List, ◌∷◌, ◌++◌, length, map, take, drop}
use Rattle.ifr_opcodes.specs.Forest.{Mark, Ancestor, Node}
use Rattle.ifr_opcodes.specs.code.Marks.{mark, ancestor_at, inside}
use Rattle.ifr_opcodes.specs.Reading.{opcodes_in}
use Rattle.ifr_opcodes.specs.code.Ops.{bytes_of, op_of}
use Rattle.ifr_nodes.specs.code.Walking.{nodes_left}
use Rattle.ifr_nodes.specs.declared.walk.Visit.{Visit}
use Rattle.ifr_nodes.specs.declared.walk.Walk.{Walk}

-- a node inside of further scopes
abbrev pub under : List Ancestor → Node → Node
under path n = record { place = n.place; op = n.op; path = path ++ n.path; children = n.children }

abbrev pub view : Visit → Mark
view visit = op_of visit.op

-- the nodes that a walk has before it, each with those of its ancestors whose scopes the walk enters
abbrev pub left : Walk → List Node
left walk = nodes_left walk.bytes.now walk.at walk.around.items

-- their places and opcodes
abbrev pub sights : Walk → List Mark
sights walk = map mark (left walk)

-- The walk meets the next node, and goes on behind its opcode.
pub record Meets (old : Walk) (visit : Visit) (new : Walk) : Type 0 where
  pub node : Node
  pub next : left old ≡ node ∷ left new
  pub shown : view visit ≡ mark node
  pub path : node.path ≡ map (ancestor_at new.bytes.now) (take visit.depth new.around.items)
  pub children : node.children ≡ inside (bytes_of visit.op) (opcodes_in (drop new.at new.bytes.now))
  pub within : visit.depth ≤ length new.around.items
  pub package_stays : new.bytes.now ≡ old.bytes.now
