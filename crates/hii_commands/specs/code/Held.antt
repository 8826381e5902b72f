-- What a line buffer holds (own rule).
use Rattle.std.specs.Prelude.{ℕ, Bool, nat_lt, List, length, take}
use Rattle.hii_commands.specs.declared.limits.TheConstants.{LINE_LIMIT}

-- What a line buffer holds: the first bytes of a line, and whether more came.
pub record Held : Type 0 where
  pub front : List ℕ
  pub more : Bool

-- what is held of a line of these bytes
abbrev pub held_of : List ℕ → Held
held_of line = record { front = take LINE_LIMIT line; more = nat_lt LINE_LIMIT (length line) }
