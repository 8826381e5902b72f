-- What a LOCKED locks (own rule; the opcode is UEFI 2.8, 33.3.8.3, EFI_IFR_LOCKED): the node in whose scope it directly stands,
-- and all inside of that. Of several the one decides that stands in the outermost, then the first by place.
use Rattle.std.specs.Prelude.{ℕ, Bool, false, ◌==◌, ◌&&◌, Option, Some, None, List, [], ◌∷◌, ◌++◌, filter, map}
use Rattle.std.specs.List.{flat_map}
use Rattle.ifr_opcodes.specs.declared.codes.TheConstants.{LOCKED}
use Rattle.ifr_opcodes.specs.Opcode.{number}
use Rattle.ifr_opcodes.specs.Forest.{Mark, Node}
use Rattle.ifr_nodes.specs.Structure.{parent}

abbrev pub is_locked : Node → Bool
is_locked n = number n.op == LOCKED

abbrev pub has_place : ℕ → Option Mark → Bool
has_place place None = false
has_place place (Some a) = a.place == place

-- whether a node is a LOCKED that stands directly in the scope of what stands at a place
abbrev pub locks_scope : ℕ → Node → Bool
locks_scope place n = is_locked n && has_place place (parent n)

-- these, by place
abbrev pub locked_in : List Node → ℕ → List Node
locked_in ns place = filter (locks_scope place) ns

-- the places of what stands around a node, the outermost first, and of the node itself
abbrev pub chain : Node → List ℕ
chain n = map (λ a. a.place) n.path ++ n.place ∷ []

-- the LOCKED that lock a node: by what they stand in, the outermost first, then by place
abbrev pub locks : List Node → Node → List Node
locks ns n = flat_map (locked_in ns) (chain n)

abbrev pub first_of_nodes : List Node → Option Node
first_of_nodes [] = None
first_of_nodes (n ∷ ns) = Some n

-- the one that decides, if a node is locked
abbrev pub first_lock : List Node → Node → Option Node
first_lock ns n = first_of_nodes (locks ns n)
