-- What is shown of texts, unit by unit.
use Rattle.std.proofs.Common.{◌≡◌, ℕ, ◌+◌, ◌*◌, ◌<◌, ◌≤◌, List, [], ◌∷◌, ◌++◌, length, drop, get_or, refl, arith}
use Rattle.browser_rules.specs.Strings.{shown_unit, characters}

pub chars_more : (bytes : List ℕ) → 2 ≤ length bytes → characters bytes ≡ shown_unit (get_or bytes 0 0 + 256 * get_or bytes 1 0) ++ characters (drop 2 bytes)
unfolding characters
chars_more [] two = absurd (omega arith)
chars_more (low ∷ []) two = absurd (omega arith)
chars_more (low ∷ high ∷ rest) two = refl

pub chars_none : (bytes : List ℕ) → length bytes < 2 → characters bytes ≡ []
unfolding characters
chars_none [] short = refl
chars_none (low ∷ []) short = refl
chars_none (low ∷ high ∷ rest) short = absurd (omega arith)
