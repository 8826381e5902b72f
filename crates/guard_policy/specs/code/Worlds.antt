-- Worlds by the places of conditions.
use Rattle.std.specs.Prelude.{ℕ, Bool, false, Option, Some, None}
use Rattle.ifr_opcodes.specs.Forest.{Node}
use Rattle.ifr_index.specs.code.Index.{conditional_at}
use Rattle.guard_policy.specs.World.{World, is_met}

-- whether the condition at a place holds; not so where none stands
abbrev pub is_met_if : World → Option Node → Bool
is_met_if w None = false
is_met_if w (Some n) = is_met w n

abbrev pub is_met_at : World → ℕ → Bool
is_met_at w place = is_met_if w (conditional_at w.nodes place)

-- a world where other conditions hold
abbrev pub otherwise : World → (Node → Bool) → World
otherwise w met = record { nodes = w.nodes; removed = w.removed; met = met }
