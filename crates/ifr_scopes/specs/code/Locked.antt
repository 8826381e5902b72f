-- The LOCKED at places of a package.
use Rattle.std.specs.Prelude.{◌≡◌, ℕ, Bool, true, ◌&&◌, Option, Some, None, IfSome, List}
use Rattle.std.proofs.Props.{props}
use Rattle.ifr_nodes.specs.Locks.{is_locked}
use Rattle.ifr_nodes.specs.code.Checked.{node_in, has_node}

-- a LOCKED stands at this place of the package
abbrev pub has_locked : List ℕ → ℕ → Bool
has_locked bytes place = has_node bytes place && is_locked (node_in bytes place)

-- One stands at the place, if there is one.
abbrev pub IsLockedPlace : List ℕ → Option ℕ → Type 0
IsLockedPlace bytes lock = IfSome lock (λ place. has_locked bytes place ≡ true)

pub IsLockedPlace-prop : (bytes : List ℕ) (lock : Option ℕ) → IsProp (IsLockedPlace bytes lock)
IsLockedPlace-prop bytes None = hlevel props
IsLockedPlace-prop bytes (Some place) = hlevel props
