-- Where the end of a text is looked for.
use Rattle.std.specs.Prelude.{◌≡◌, ℕ, ◌≤◌, ◌%◌, Option, None, Some, List, ◌++◌, length, drop}
use Rattle.browser_rules.specs.Strings.{cut_text}

-- a text with these bytes in front
abbrev pub behind_front : List ℕ → Option (List ℕ × List ℕ) → Option (List ℕ × List ℕ)
behind_front front None = None
behind_front front (Some t) = Some (front ++ t.0, t.1)

-- the rest of a text, of which whole units stand before
pub record IsRest (bytes rest : List ℕ) : Type 0 where
  pub front : List ℕ
  pub parts : bytes ≡ front ++ rest
  pub even : length front % 2 ≡ 0
  pub text : behind_front front (cut_text rest) ≡ cut_text bytes

-- Units of which none is zero stand between two indices: where the rest of a text begins at one, one begins at the other.
pub record AreUnits (bytes : List ℕ) (from to : ℕ) : Type 0 where
  pub within : to ≤ length bytes
  pub passed : (text : List ℕ) → IsRest text (drop from bytes) → IsRest text (drop to bytes)
