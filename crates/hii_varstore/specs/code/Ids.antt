-- The ids of stores, in a set.
use Rattle.std.specs.Prelude.{◌≡◌, ℕ, Bool, ◌==◌, List}
use Rattle.std.specs.List.{list_any}
use Rattle.hii_bytes.specs.code.NumberSets.{has_number}
use Rattle.ifr_opcodes.specs.Forest.{Node}
use Rattle.ifr_scopes.specs.Stores.{store_id}

-- these are the ids of some stores
abbrev pub AreIdsOf : List Node → List Bool → Type 0
AreIdsOf stores ids =
    (id : ℕ) → has_number ids id ≡ list_any (λ n. store_id n.op == id) stores
