-- Values of options that may be chosen.
use Rattle.std.specs.Prelude.{ℕ, Bool, ◌==◌, ◌&&◌, is_none}
use Rattle.ifr_opcodes.specs.Fields.{option_value}
use Rattle.ifr_opcodes.specs.Forest.{Node}
use Rattle.guard_policy.specs.Policy.{fixed}
use Rattle.guard_policy.specs.World.{World}

-- whether an option has a value and may be chosen
abbrev pub opens : World → ℕ → Node → Bool
opens w value o = (option_value o.op == value) && is_none (fixed w o)
