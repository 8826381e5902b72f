-- The guards of a node (UEFI 2.8, 33.3.8.3, EFI_IFR_SUPPRESS_IF, EFI_IFR_GRAY_OUT_IF and EFI_IFR_DISABLE_IF).
use Rattle.std.specs.Prelude.{ℕ, Bool, ◌==◌, ◌||◌, List, [], ◌∷◌, ◌++◌, filter}
use Rattle.ifr_opcodes.specs.declared.codes.TheConstants.{SUPPRESS_IF, GRAY_OUT_IF, DISABLE_IF}
use Rattle.ifr_opcodes.specs.Opcode.{number}
use Rattle.ifr_opcodes.specs.Forest.{Ancestor, Node}

-- whether this is the number of a guard
abbrev pub is_guard : ℕ → Bool
is_guard code = code == SUPPRESS_IF || code == GRAY_OUT_IF || code == DISABLE_IF

-- what stands around others as a node, with its own ancestors
abbrev pub node_within : List Ancestor → Ancestor → Node
node_within around a = record { place = a.place; op = a.op; path = around; children = a.children }

-- the nodes on a path, of which each stands around the next, and these around the first
abbrev pub nodes_on : List Ancestor → List Ancestor → List Node
nodes_on around [] = []
nodes_on around (a ∷ path) = node_within around a ∷ nodes_on (around ++ a ∷ []) path

-- the nodes around a node, the outermost first
abbrev pub ancestors : Node → List Node
ancestors n = nodes_on [] n.path

-- the guards among some nodes
abbrev pub guards_among : List Node → List Node
guards_among ns = filter (λ n. is_guard (number n.op)) ns

-- the guards around a node, the outermost first
abbrev pub guards : Node → List Node
guards n = guards_among (ancestors n)
