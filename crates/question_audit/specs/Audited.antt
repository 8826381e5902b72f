-- What an audit looks at (own rule).
use Rattle.std.specs.Prelude.{ℕ, List}
use Rattle.hii_varstore.specs.Stores.{StoreMap}
use Rattle.ifr_defaults.specs.Defaults.{Sources}
use Rattle.guard_policy.specs.World.{World}

-- a form set over some stores: the characters that are shown of each string id, what decides, and what defaults are taken from
pub record Audited : Type 0 where
  pub texts : ℕ → List ℕ
  pub world : World
  pub stores : StoreMap
  pub sources : Sources
