-- The forest that a forms package spells, and its nodes in the order of their places (UEFI 2.8, 33.3.8 Forms Package).
use Rattle.std.specs.Prelude.{◌≡◌, ◌≢◌, ℕ, ◌+◌, ◌≤◌, max, false, if◌then◌else◌, List, [], drop, map, ⊤}
pub use Rattle.browser_rules.specs.Forest.{Forest, Forest-set, none, node, opcodes, flat, Ancestor, Node, as_ancestor, nodes_at, below, node_at}
use Rattle.ifr_opcodes.specs.Opcode.{number, has_scope, IsWhole}
use Rattle.ifr_opcodes.specs.declared.codes.TheConstants.{END}

-- how many scopes are open at once
abbrev pub height : Forest → ℕ
height none = 0
height (node op children rest) = max (if has_scope op then height children + 1 else 0) (height rest)

-- An END is no node, and without Scope there are no children.
pub record IsNode (op : List ℕ) (children : Forest) : Type 0 where
  pub whole : IsWhole op
  pub no_end : number op ≢ END
  pub leaf : has_scope op ≡ false → children ≡ none

abbrev pub AreNodes : Forest → Type 0
AreNodes none = ⊤
AreNodes (node op children rest) = IsNode op children × (AreNodes children × AreNodes rest)

-- A package's bytes behind its header are those of a forest with at most 64 open scopes (the bound is an own rule).
pub record SpellsForest (bytes : List ℕ) (f : Forest) : Type 0 where
  pub spelled : drop 4 bytes ≡ flat f
  pub are_nodes : AreNodes f
  pub within : height f ≤ 64

-- a node, said by its place, an offset from the package's header, and its opcode
pub record Mark : Type 0 where
  pub place : ℕ
  pub op : List ℕ

-- the nodes of a package
abbrev pub nodes : Forest → List Node
nodes f = nodes_at 4 [] f

abbrev pub places : List Node → List ℕ
places ns = map (λ n. n.place) ns
