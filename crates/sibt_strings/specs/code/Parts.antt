-- The parts of a string package (UEFI 2.8, 33.3.6.1 Fixed Header).
use Rattle.std.specs.Prelude.{ℕ, ◌≤◌, List, length, drop}
use Rattle.browser_rules.specs.Strings.{info_offset}

abbrev pub blocks_of : List ℕ → List ℕ
blocks_of bytes = drop (info_offset bytes) bytes

-- The fixed part of 46 bytes is there, and the blocks begin behind it in the package.
pub record HasFixedPart (bytes : List ℕ) : Type 0 where
  pub long : 46 ≤ length bytes
  pub low : 46 ≤ info_offset bytes
  pub high : info_offset bytes ≤ length bytes
