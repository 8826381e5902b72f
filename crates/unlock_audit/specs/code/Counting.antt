-- Tries that are counted, whatever is tried.
use Rattle.std.specs.Prelude.{ℕ, ◌+◌, ◌-◌, ◌==◌, ◌||◌, Bool, if◌then◌else◌, is_some, Option, Some, None, List, [], ◌∷◌}

-- how many are left, how many were made, and the one that passes
pub record Tally (X : Type 0) : Type 0 where
  pub left : ℕ
  pub tried : ℕ
  pub found : Option X

module _ {X : Type 0} where
  abbrev pub begun_tally : ℕ → Tally X
  begun_tally most = record { left = most; tried = 0; found = None }

  -- No further one is made.
  abbrev pub is_done : Tally X → Bool
  is_done t = is_some t.found || t.left == 0

  -- one was made, and passes or does not
  abbrev pub counted : Tally X → Option X → Tally X
  counted t passing = record { left = t.left - 1; tried = t.tried + 1; found = passing }

  abbrev pub with_try : (X → Bool) → Tally X → X → Tally X
  with_try test t each = if is_done t then t else counted t (if test each then Some each else None)

  abbrev pub with_tries : (X → Bool) → Tally X → List X → Tally X
  with_tries test t [] = t
  with_tries test t (each ∷ others) = with_tries test (with_try test t each) others
