-- What a session holds (own rule).
use Rattle.std.specs.Prelude.{ℕ, Option, List}
use Rattle.browser_rules.specs.Strings.{Spoken, shown}
use Rattle.ifr_nodes.specs.Nodes.{nodes_of}
use Rattle.hii_varstore.specs.Stores.{StoreMap}
use Rattle.guard_policy.specs.World.{World, world_over}

-- The bytes of the forms package that is browsed, the device path of the list, the places of the DISABLE_IFs that were
-- removed from the package when it was opened, and the texts of the string packages, which stay the same; the number of the
-- string package whose texts are shown; the stores as they were last submitted; the stores that commands read and change; the
-- place of the current form; and the places of the forms that references have led away from, the oldest first.
pub record State : Type 0 where
  pub ifr : List ℕ
  pub path : List ℕ
  pub removed : List ℕ
  pub spoken : List Spoken
  pub language : Option ℕ
  pub committed : StoreMap
  pub working : StoreMap
  pub form : ℕ
  pub history : List ℕ

-- what decisions look at, over some stores, and over those that commands change
abbrev pub world_with : State → StoreMap → World
world_with s stores = world_over (nodes_of s.ifr) s.removed stores

abbrev pub world_of : State → World
world_of s = world_with s s.working

-- the characters that are shown of a string id
abbrev pub texts : State → ℕ → List ℕ
texts s id = shown s.spoken s.language id
