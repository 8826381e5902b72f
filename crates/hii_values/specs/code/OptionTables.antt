-- What a table of options by their values holds.
use Rattle.std.specs.Prelude.{ℕ, ◌≤◌, All, List, filter, length, slice_range}
use Rattle.ifr_opcodes.specs.Forest.{Node}
use Rattle.ifr_nodes.specs.Accepted.{IsAccepted}
use Rattle.ifr_nodes.specs.code.Checked.{node_in}
use Rattle.hii_values.specs.code.OptionPlaces.{AreWithValue, ValuesRise, has_value_at}
use Rattle.hii_values.specs.declared.option_table.OptionBlock.{OptionBlock}

-- These are the places of the options of a question, by value, and those of one value by place.
pub record KeepsOptions (bytes : List ℕ) (q : Node) (places : List ℕ) : Type 0 where
  pub rise : ValuesRise bytes places
  pub with : (value : ℕ) → AreWithValue bytes q value (filter (has_value_at bytes value) places)

pub record IsBlock (bytes places : List ℕ) (b : OptionBlock) : Type 0 where
  pub ordered : b.first ≤ b.end
  pub within : b.end ≤ length places
  pub keeps : KeepsOptions bytes (node_in bytes b.question) (slice_range places b.first b.end)

pub record HoldsOptions (bytes : List ℕ) (blocks : List OptionBlock) (places : List ℕ) : Type 0 where
  pub accepted : IsAccepted bytes
  pub each : All (λ b. IsBlock bytes places b) blocks
