-- Characters of ASCII at the front of texts, which are shown as they are.
use Rattle.std.specs.Prelude.{◌≡◌, ◌≤◌, ℕ, Bool, true, ◌&&◌, nat_le, nat_lt, List, ◌∷◌, ◌++◌, length, take, drop}
use Rattle.std.specs.List.{list_all}
use Rattle.browser_rules.specs.Strings.{characters}

-- a character of ASCII and no control
abbrev pub is_plain : ℕ → Bool
is_plain c = nat_le 0x20 c && nat_lt c 0x7f

-- the characters of some units are such a character and those of the rest
pub record Begins (units : List ℕ) (c : ℕ) (rest : List ℕ) : Type 0 where
  pub plain : is_plain c ≡ true
  pub parts : characters units ≡ c ∷ characters rest

-- So many such characters at the front of those of some units are the first of the new bytes, of which the others are as they
-- were, and behind them are the characters of the rest.
pub record Copies (units old new : List ℕ) (count : ℕ) (rest : List ℕ) : Type 0 where
  pub parts : characters units ≡ take count new ++ characters rest
  pub plain : list_all is_plain (take count new) ≡ true
  pub others : drop count new ≡ drop count old
  pub within : count ≤ length new
  pub sized : length new ≡ length old
