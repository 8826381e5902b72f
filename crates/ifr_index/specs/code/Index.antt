-- Which guards cover a form, a statement or an option, and which LOCKED locks it, looked up by its place; and nodes with
-- conditions by theirs.
use Rattle.std.specs.Prelude.{ℕ, Bool, ◌==◌, ◌&&◌, ◌||◌, Option, Some, None, option_map, List, []}
use Rattle.std.specs.List.{find}
use Rattle.ifr_opcodes.specs.Forest.{Node}
use Rattle.ifr_opcodes.specs.Opcode.{number}
use Rattle.ifr_nodes.specs.Guards.{is_guard, guards}
use Rattle.ifr_opcodes.specs.Rows.{is_condition_number}
use Rattle.ifr_nodes.specs.Locks.{first_lock}
use Rattle.ifr_nodes.specs.Nodes.{is_form, is_statement, is_option}

abbrev pub is_indexed : Node → Bool
is_indexed n = is_form n || is_statement n || is_option n

-- whether a node has a condition: it is a guard, or a condition of a question
abbrev pub is_conditional : Node → Bool
is_conditional n = is_guard (number n.op) || is_condition_number (number n.op)

-- the first of some nodes of a kind that stands at a place
abbrev pub kind_at : (Node → Bool) → List Node → ℕ → Option Node
kind_at is ns place = find (λ n. is n && (n.place == place)) ns

-- the form, statement or option at a place
abbrev pub indexed_at : List Node → ℕ → Option Node
indexed_at ns place = kind_at is_indexed ns place

-- what is kept of the form, statement or option at a place
abbrev pub entry_of : {X : Type 0} → (Node → Option X) → Option Node → Option X
entry_of entry None = None
entry_of entry (Some n) = entry n

abbrev pub entry_at : {X : Type 0} → (Node → Option X) → List Node → ℕ → Option X
entry_at entry ns place = entry_of entry (indexed_at ns place)

-- the guards of the form, statement or option at a place, the outermost first; none at any other place
abbrev pub or_none : Option (List Node) → List Node
or_none None = []
or_none (Some its) = its

abbrev pub guards_of_indexed : List Node → ℕ → List Node
guards_of_indexed ns place = or_none (option_map guards (indexed_at ns place))

-- the LOCKED that decides for the form, statement or option at a place; none for what is not locked, nor at any other place
abbrev pub lock_of_indexed : List Node → ℕ → Option Node
lock_of_indexed ns place = entry_at (first_lock ns) ns place

-- the node with a condition at a place
abbrev pub conditional_at : List Node → ℕ → Option Node
conditional_at ns place = kind_at is_conditional ns place
