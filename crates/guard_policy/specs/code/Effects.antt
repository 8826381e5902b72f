-- What guards deny.
use Rattle.std.specs.Prelude.{◌≡◌, ℕ, Bool, Option, option_map}
use Rattle.std.specs.List.{find}
use Rattle.std.proofs.Props.{props}
use Rattle.ifr_index.specs.code.Tables.{guards_from}
use Rattle.hii_values.specs.declared.denial.DenialKind.TheVariants.{GrayOutIf}
use Rattle.guard_policy.specs.Policy.{denied_by, grays_out, hidden_among}
use Rattle.guard_policy.specs.World.{World}
use Rattle.guard_policy.specs.code.Views.{world_by}
use Rattle.guard_policy.specs.declared.denial.Denial.{Denial}
use Rattle.guard_policy.specs.declared.effects.Effects.{Effects}
use Rattle.guard_policy.specs.declared.policy.Policy.{Policy}

-- These are the denials of the guard of its number and of those around it.
pub record AreEffects (w : World) (it : Effects) : Type 0 where
  pub hides : it.hides ≡ hidden_among w (guards_from w.nodes it.guard)
  pub grays_out : it.grays_out ≡ option_map (denied_by GrayOutIf) (find (grays_out w) (guards_from w.nodes it.guard))

-- where what is kept by place tells whether conditions hold
abbrev pub AreEffectsBy : Policy → (ℕ → Bool) → Effects → Type 0
AreEffectsBy policy holding it = AreEffects (world_by policy (λ n. holding n.place)) it

denial_prop : (a b : Option Denial) → IsProp (a ≡ b)
denial_prop a b = hlevel props

pub AreEffectsBy-prop : (policy : Policy) (holding : ℕ → Bool) (it : Effects) → IsProp (AreEffectsBy policy holding it)
AreEffectsBy-prop policy holding it = hlevel (props, denial_prop)
