-- Which statements give a default, and how the index finds them.
use Rattle.std.specs.Prelude.{◌≡◌, ℕ, Bool, ◌==◌, ◌&&◌, ◌||◌, if◌then◌else◌, Option, Some, None, List, [], ◌∷◌, ◌++◌, filter, map}
use Rattle.std.specs.List.{list_any}
use Rattle.std.proofs.Props.{props}
use Rattle.ifr_opcodes.specs.declared.codes.TheConstants.{CHECKBOX}
use Rattle.ifr_opcodes.specs.Fields.{is_default_option, is_manufacturing_option, is_default_checkbox, is_manufacturing_checkbox}
use Rattle.ifr_opcodes.specs.Forest.{Node, below}
use Rattle.ifr_opcodes.specs.Opcode.{number}
use Rattle.ifr_nodes.specs.Nodes.{is_default, is_option, is_question, is_statement}
use Rattle.ifr_nodes.specs.code.Checked.{node_in}
use Rattle.ifr_index.specs.declared.index.Entry.{Entry}

-- whether a node gives a default for a class: a DEFAULT, or an option or a checkbox with a flag of one
unfoldable pub gives_default : Node → Bool
gives_default n =
    is_default n
    || (if is_option n then is_default_option n.op || is_manufacturing_option n.op
    else number n.op == CHECKBOX && (is_default_checkbox n.op || is_manufacturing_checkbox n.op))

-- whether a statement gives one, by its flags or, where it is a question, by what stands in its scope
unfoldable pub is_giving : Node → Bool
is_giving n =
    is_statement n
    && (gives_default n || (is_question n && list_any gives_default (below n)))

-- ---- one node after the other

-- the place of the last statement up to a node, as long as it is not known to give
abbrev pub waiting : Option ℕ → Node → Option ℕ
waiting last n = if is_statement n then Some n.place else last

abbrev pub as_list : Option ℕ → List ℕ
as_list None = []
as_list (Some place) = place ∷ []

-- the place that a node adds, if it adds one, and the last statement behind it
abbrev pub added : Option ℕ → Node → List ℕ
added last n = if gives_default n then as_list (waiting last n) else []

abbrev pub last_behind : Option ℕ → Node → Option ℕ
last_behind last n = if gives_default n then None else waiting last n

-- the places that some nodes add
unfoldable pub added_by : Option ℕ → List Node → List ℕ
added_by last [] = []
added_by last (n ∷ ns) = added last n ++ added_by (last_behind last n) ns

-- ---- those among the forms, statements and options of a package

-- whether one of them is a statement that gives
abbrev pub gives_at : List ℕ → Entry → Bool
gives_at bytes one = is_giving (node_in bytes one.place)

-- These are the places of those.
abbrev pub AreGiving : List ℕ → List Entry → List ℕ → Type 0
AreGiving bytes kept places = places ≡ map (λ one. one.place) (filter (gives_at bytes) kept)

pub AreGiving-prop : (bytes : List ℕ) (kept : List Entry) (places : List ℕ)
    → IsProp (AreGiving bytes kept places)
AreGiving-prop bytes kept places = hlevel props
