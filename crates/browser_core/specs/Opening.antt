-- Which bytes open a session, and by which fault others are refused (own rule).
use Rattle.std.specs.Prelude.{◌≡◌, ◌⊎◌, ℕ, List, []}
use Rattle.hii_bytes.specs.declared.cause.Cause.TheVariants.{OutOfMemory}
use Rattle.hii_bytes.specs.declared.cause.Fault.{Fault}
use Rattle.browser_rules.specs.Faults.{IsLeast, open_faults}
use Rattle.browser_rules.specs.Forest.{nodes_of}
use Rattle.browser_rules.specs.Headline.{start}
use Rattle.browser_rules.specs.Packages.{forms_bytes}
use Rattle.browser_rules.specs.Session.{State}
use Rattle.browser_rules.specs.Stores.{Stores, SpellsImage, shape_of}
use Rattle.hii_bytes.specs.Causes.{fault_for}

-- The bytes have no fault, and a session begins over the stores that the image spells.
pub record Opens (list : List ℕ) (n : ℕ) (image language : List ℕ) (begun : State) : Type 0 where
  pub stores : Stores
  pub sound : open_faults list n image ≡ []
  pub spelled : SpellsImage (shape_of (nodes_of (forms_bytes list n))) image stores
  pub begins : begun ≡ start list n language stores

-- An allocation failed.
abbrev pub IsOfMemory : Fault → Type 0
IsOfMemory fault = fault ≡ record { cause = OutOfMemory; place = 0 }

-- An allocation failed, or the fault is the least one of these bytes.
abbrev pub RefusesOpening : List ℕ → ℕ → List ℕ → Fault → Type 0
RefusesOpening list n image fault =
    IsOfMemory fault ⊎ IsLeast (open_faults list n image) (fault_for fault.cause fault.place)
