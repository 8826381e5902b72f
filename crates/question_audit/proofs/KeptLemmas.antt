-- What is kept of conditions tells of each decision over the stores.
use Rattle.std.proofs.Common.{◌≡◌, ℕ, Bool, true, sym, subst}
use Rattle.hii_varstore.specs.Stores.{StoreMap}
use Rattle.guard_policy.specs.code.KeptConditions.{Tells, TellsAll, is_by_kept}
use Rattle.guard_policy.specs.code.Views.{bytes_of, world}
use Rattle.guard_policy.specs.declared.policy.Policy.{Policy}
use Rattle.guard_policy.specs.declared.support.Decision.{Decision}
use Rattle.guard_policy.specs.laws.Support.{IsSubjectOf, conditions}
use Rattle.guard_policy.proofs.ToldLemmas.{decision_told}

-- also by the same policy that was got in another way
pub kept_told : (policy got : Policy) (m : StoreMap) (holding : ℕ → Bool) (d : Decision) → got ≡ policy → TellsAll holding (world policy m) → IsSubjectOf (bytes_of policy) d → is_by_kept d ≡ true
    → Tells holding (world got m) (conditions (world got m) d)
kept_told policy got m holding d same told subject e =
    decision_told (bytes_of got) got.removed.now m holding got.accepted (subst (λ (p : Policy). TellsAll holding (world p m)) (sym same) told) d
    (subst (λ (p : Policy). IsSubjectOf (bytes_of p) d) (sym same) subject) e
