-- What is kept over stores, and the conditions over them.
use Rattle.std.specs.Prelude.{ℕ, List}
use Rattle.ifr_nodes.specs.Accepted.{IsAccepted}
use Rattle.ifr_nodes.specs.Nodes.{nodes_of}
use Rattle.hii_varstore.specs.Stores.{StoreMap}
use Rattle.guard_policy.specs.code.KeptConditions.{TellsAll}
use Rattle.guard_policy.specs.World.{world_over}
use Rattle.kept_conditions.specs.Kept.{held, told_over}

-- What is kept over some stores tells of the conditions of an accepted package over these stores.
abbrev pub KeptTells : Type 0
KeptTells =
    (ifr removed : List ℕ) (stores : StoreMap) → IsAccepted ifr
    → TellsAll (held (told_over ifr stores)) (world_over (nodes_of ifr) removed stores)
