-- How many conditions are evaluated anew after some writes, counted one write after the other.
use Rattle.std.specs.Prelude.{ℕ, List, [], ◌∷◌}
use Rattle.ifr_opcodes.specs.Forest.{Node}
use Rattle.kept_conditions.specs.Kept.{counted}
use Rattle.kept_conditions.specs.Touching.{renewals}
use Rattle.session_steps.specs.Renewed.{Write}

abbrev pub counted_all : ℕ → List Node → List Write → ℕ
counted_all count ns [] = count
counted_all count ns (write ∷ writes) = counted_all (counted count (renewals ns write)) ns writes
