-- Bytes cut into opcodes, and opcodes made into a forest again (UEFI 2.8, 33.3.8 Forms Package).
use Rattle.std.specs.Prelude.{ℕ, List, length}
pub use Rattle.browser_rules.specs.Forest.{first_forest}
unfoldable pub use Rattle.browser_rules.specs.Forest.{cut, levels, tree_of}

abbrev pub opcodes_in : List ℕ → List (List ℕ)
opcodes_in bytes = cut (length bytes) bytes
