-- Guards as they are kept: each as its place and the question in whose scope it stands.
use Rattle.std.specs.Prelude.{◌≡◌, ℕ, true, All, List, map}
use Rattle.std.proofs.Props.{props}
use Rattle.ifr_opcodes.specs.Forest.{Node}
use Rattle.ifr_nodes.specs.code.Checked.{node_in, has_guard}
use Rattle.ifr_nodes.specs.Guards.{guards}
use Rattle.ifr_nodes.specs.Nodes.{this_of}
use Rattle.ifr_nodes.specs.declared.guard_place.GuardPlace.{GuardPlace}

abbrev pub kept_guard : Node → GuardPlace
kept_guard guard = record { place = guard.place; this = this_of guard }

-- the guards of a node, the outermost first
abbrev pub kept_guards : Node → List GuardPlace
kept_guards n = map kept_guard (guards n)

-- A guard stands at the place in the package, and in the scope of this question.
pub record IsKept (bytes : List ℕ) (guard : GuardPlace) : Type 0 where
  pub stands : has_guard bytes guard.place ≡ true
  pub within : guard.this ≡ this_of (node_in bytes guard.place)

pub IsKept-prop : (bytes : List ℕ) (guard : GuardPlace) → IsProp (IsKept bytes guard)
IsKept-prop bytes guard = hlevel props

abbrev pub AreKept : List ℕ → List GuardPlace → Type 0
AreKept bytes guards = All (λ guard. IsKept bytes guard) guards

pub AreKept-prop : (bytes : List ℕ) (guards : List GuardPlace) → IsProp (AreKept bytes guards)
AreKept-prop bytes guards = hlevel (props, IsKept-prop)
