-- Faults in several parts.
use Rattle.std.proofs.Common.{ℕ, inl, inr}
use Rattle.hii_bytes.specs.declared.cause.Cause.{Cause}
use Rattle.hii_bytes.specs.declared.cause.Fault.{Fault}
use Rattle.hii_bytes.specs.Faults.{IsLeast, HasNone, Then}

-- the least fault of the first part is the least of both
pub then_first : (First Second : Cause → ℕ → Type 0) (fault : Fault) → IsLeast First fault → IsLeast (Then First Second) fault
then_first First Second fault l = record {
  told = inl l.told;
  least = λ c p other. elim other [ inl a ↦ l.least c p a | inr b ↦ absurd (b.0 fault.cause fault.place l.told) ];
}

-- where the first part has none, the least fault of the second is the least of both
pub then_second : (First Second : Cause → ℕ → Type 0) (fault : Fault) → HasNone First → IsLeast Second fault → IsLeast (Then First Second) fault
then_second First Second fault none l = record {
  told = inr (none, l.told);
  least = λ c p other. elim other [ inl a ↦ absurd (none c p a) | inr b ↦ l.least c p b.1 ];
}

-- where neither part has a fault there is none
pub then_none : (First Second : Cause → ℕ → Type 0) → HasNone First → HasNone Second → HasNone (Then First Second)
then_none First Second none second c p other = elim other [ inl a ↦ none c p a | inr b ↦ second c p b.1 ]
