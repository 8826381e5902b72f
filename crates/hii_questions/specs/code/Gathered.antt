-- The ids of the stores of a form set, where they were gathered.
use Rattle.std.specs.Prelude.{◌≡◌, ℕ, Bool, List, Option, Some, None, ⊤}
use Rattle.hii_bytes.specs.code.NumberSets.{has_number}
use Rattle.ifr_opcodes.specs.Forest.{Node}
use Rattle.hii_questions.specs.Faults.{is_known}

-- nothing was gathered, or the ids of all stores
abbrev pub AreGathered : List Node → Option (List Bool) → Type 0
AreGathered ns None = ⊤
AreGathered ns (Some ids) = (id : ℕ) → has_number ids id ≡ is_known ns id
