-- What is kept of conditions, and how it decides.
use Rattle.std.specs.Prelude.{◌≡◌, ℕ, Bool, true, false, Result, List, filter}
use Rattle.std.proofs.Props.{props}
use Rattle.std.specs.List.{AllByRecursion, AllByRecursion-prop}
use Rattle.ifr_opcodes.specs.Forest.{Node}
use Rattle.hii_varstore.specs.Stores.{StoreMap}
use Rattle.guard_policy.specs.Conditions.{is_kept}
use Rattle.guard_policy.specs.World.{World, is_met}
use Rattle.guard_policy.specs.code.Answers.{unless}
use Rattle.guard_policy.specs.declared.denial.Denial.{Denial}
use Rattle.guard_policy.specs.declared.support.Decision.{Decision}
use Rattle.guard_policy.specs.declared.support.Decision.TheVariants.{Consistent, Warnings}
use Rattle.guard_policy.specs.laws.Support.{conditions, denial}

-- What is kept by place tells of these conditions whether they hold.
abbrev pub Tells : (ℕ → Bool) → World → List Node → Type 0
Tells holding w cs = AllByRecursion (λ c. holding c.place ≡ is_met w c) cs

-- What is kept by place tells of all of them.
abbrev pub TellsAll : (ℕ → Bool) → World → Type 0
TellsAll holding w = Tells holding w (filter is_kept w.nodes)

pub TellsAll-prop : (holding : ℕ → Bool) (w : World) → IsProp (TellsAll holding w)
TellsAll-prop holding w =
    AllByRecursion-prop (λ (c : Node). holding c.place ≡ is_met w c) (λ c. hlevel props)
    (filter is_kept w.nodes)

-- A decision depends only on what may be kept: not so of the consistency of a value, and of warnings.
abbrev pub is_by_kept : Decision → Bool
is_by_kept (Consistent question) = false
is_by_kept (Warnings question) = false
is_by_kept _ = true

-- An answer by what is kept is the one over all stores of whose conditions that tells.
abbrev pub DecidesBy : (ℕ → Bool) → (StoreMap → World) → Decision → Result Unit Denial → Type 0
DecidesBy holding world decision answer =
    (stores : StoreMap) → Tells holding (world stores) (conditions (world stores) decision)
    → answer ≡ unless (denial (world stores) decision)
