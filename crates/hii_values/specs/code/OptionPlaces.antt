-- The places of options of a package, by the values of these.
use Rattle.std.specs.Prelude.{◌≡◌, true, ℕ, ◌+◌, ◌==◌, nat_le, Bool, if◌then◌else◌, All, List, Option, Some, None, filter, length, map, slice_get}
use Rattle.std.specs.List.Sorted.{IsPermutation, IsSortedByKey}
use Rattle.std.specs.Ordering.{is_le, nat_cmp}
use Rattle.std.proofs.Props.{props}
use Rattle.hii_bytes.specs.Numbers.{number_in}
use Rattle.ifr_opcodes.specs.Fields.{option_value, type_width}
use Rattle.ifr_opcodes.specs.Forest.{Node}
use Rattle.ifr_opcodes.specs.declared.kinds.TheConstants.{TYPE_BOOLEAN}
use Rattle.ifr_nodes.specs.Nodes.{options}
use Rattle.ifr_nodes.specs.code.Checked.{node_in}
use Rattle.ifr_scopes.specs.code.Parts.{has_option}

-- the number of a Type at a place of some bytes; 0 where it is not there, or of another Type than a number or a Boolean
abbrev pub number_of_kind : List ℕ → ℕ → Option ℕ → ℕ
number_of_kind bytes place None = 0
number_of_kind bytes place (Some kind) =
    if nat_le kind TYPE_BOOLEAN
    then (if nat_le (place + type_width kind) (length bytes)
    then number_in bytes place (type_width kind) else 0)
    else 0

-- the value of the option that stands at a place; some number where none stands there
abbrev pub value_at : List ℕ → ℕ → ℕ
value_at bytes place = number_of_kind bytes (place + 6) (slice_get bytes (place + 5))

abbrev pub has_value_at : List ℕ → ℕ → ℕ → Bool
has_value_at bytes value place = value_at bytes place == value

abbrev pub is_up_to : List ℕ → ℕ → ℕ → Bool
is_up_to bytes value place = is_le (nat_cmp (value_at bytes place) value)

abbrev pub ValuesRise : List ℕ → List ℕ → Type 0
ValuesRise bytes places = IsSortedByKey (value_at bytes) nat_cmp places

-- These are the same places by value, and those of one value stand as they stood.
pub record IsByValue (bytes old new : List ℕ) : Type 0 where
  pub shuffled : IsPermutation old new
  pub rise : ValuesRise bytes new
  pub kept : (value : ℕ) → filter (has_value_at bytes value) new ≡ filter (has_value_at bytes value) old

-- an option has this value
abbrev pub has_value : ℕ → Node → Bool
has_value value o = option_value o.op == value

-- Options stand at these places.
abbrev pub AreOptions : List ℕ → List ℕ → Type 0
AreOptions bytes places = All (λ p. has_option bytes p ≡ true) places

pub AreOptions-prop : (bytes places : List ℕ) → IsProp (AreOptions bytes places)
AreOptions-prop bytes places = hlevel props

-- At these places stand the options of a question that have a value.
pub record AreWithValue (bytes : List ℕ) (q : Node) (value : ℕ) (places : List ℕ) : Type 0 where
  pub there : AreOptions bytes places
  pub nodes : map (node_in bytes) places ≡ filter (has_value value) (options q)
