-- The forest that a forms package spells, and its nodes by place (UEFI 2.8, 33.3.8 Forms Package and 33.3.8.2.1; which
-- bytes spell one, Faults says: those whose framing has no fault).
use Rattle.std.specs.Prelude.{ℕ, zero, suc, ◌+◌, ◌%◌, ◌==◌, if◌then◌else◌, Option, Some, None, List, [], ◌∷◌, ◌++◌}
use Rattle.std.specs.Prelude.{length, take, drop, slice_index}
use Rattle.std.specs.List.{concat}
use Rattle.browser_rules.specs.Opcodes.{number, has_scope}

-- ---- opcodes: a number, a byte with the length in its low seven bits and Scope in the top one, and fields

abbrev pub stated_length : List ℕ → ℕ
stated_length op = slice_index op 1 % 128

-- what ends a scope (EFI_IFR_END)
abbrev pub END : ℕ
END = 0x29

abbrev pub end : List ℕ
end = END ∷ 2 ∷ []

-- at most n opcodes, one behind the other
unfoldable pub cut : ℕ → List ℕ → List (List ℕ)
cut zero bytes = []
cut (suc n) bytes =
    if length bytes == 0 then [] else take (stated_length bytes) bytes ∷ cut n (drop (stated_length bytes) bytes)

-- ---- the forest: empty, or an opcode with its children, and the rest, which follows it

pub data Forest : Type 0 where
  none : Forest
  node : (op : List ℕ) (children rest : Forest) → Forest
  deriving IsSet as Forest-set

-- its opcodes, each followed, where it has Scope, by those of its children and an END; and their bytes
abbrev pub opcodes : Forest → List (List ℕ)
opcodes none = []
opcodes (node op children rest) = op ∷ (if has_scope op then opcodes children ++ end ∷ [] else []) ++ opcodes rest

abbrev pub flat : Forest → List ℕ
flat f = concat (opcodes f)

abbrev pub first_forest : List Forest → Forest
first_forest [] = none
first_forest (f ∷ fs) = f

-- the forest that opcodes begin with, up to the END of a scope around them, and behind each such END the next
unfoldable pub levels : List (List ℕ) → Forest × List Forest
levels [] = (none, [])
levels (op ∷ ops) =
    if number op == END then (none, (levels ops).0 ∷ (levels ops).1)
    else if has_scope op then (node op (levels ops).0 (first_forest (levels ops).1), drop 1 (levels ops).1)
    else (node op none (levels ops).0, (levels ops).1)

-- The forest of a package, whose opcodes begin behind four bytes. Without a fault of framing these opcodes are `flat`
-- of it, and of no other forest of whole opcodes without END, where only those with Scope have children.
unfoldable pub tree_of : List ℕ → Forest
tree_of ifr = (levels (cut (length (drop 4 ifr)) (drop 4 ifr))).0

-- ---- nodes: an opcode at its place, what is around it, outermost first, and its children

pub record Ancestor : Type 0 where
  pub place : ℕ
  pub op : List ℕ
  pub children : Forest

pub record Node : Type 0 where
  pub place : ℕ
  pub op : List ℕ
  pub path : List Ancestor
  pub children : Forest

abbrev pub as_ancestor : Node → Ancestor
as_ancestor n = record { place = n.place; op = n.op; children = n.children }

-- each before its children, and these before what follows it
abbrev pub nodes_at : ℕ → List Ancestor → Forest → List Node
nodes_at at path none = []
nodes_at at path (node op children rest) =
    record { place = at; op = op; path = path; children = children }
    ∷ nodes_at (at + length op) (path ++ record { place = at; op = op; children = children } ∷ []) children
    ++ nodes_at (at + length (flat (node op children none))) path rest

abbrev pub nodes_of : List ℕ → List Node
nodes_of ifr = nodes_at 4 [] (tree_of ifr)

-- the first of some nodes that stands at a place
abbrev pub node_at : List Node → ℕ → Option Node
node_at [] place = None
node_at (n ∷ ns) place = if n.place == place then Some n else node_at ns place

-- what stands in a node's scope, at any depth, and where the node ends, its END counted
abbrev pub below : Node → List Node
below n = nodes_at (n.place + length n.op) (n.path ++ as_ancestor n ∷ []) n.children

abbrev pub end_of : Ancestor → ℕ
end_of a = a.place + length (flat (node a.op a.children none))
