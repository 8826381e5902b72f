use Rattle.std.proofs.Common.{◌≡◌, drop}
use Rattle.kept_conditions.specs.code.Dependents.{passed}
use Rattle.kept_conditions.proofs.LookupLemmas.{Precedes, replaced}
use Rattle.kept_conditions.proofs.dependents.number_dependents.Given as goal

-- the places so far were replaced
abbrev pub invariant-loop-place : goal.invariant-loop-place
invariant-loop-place l = record {
  same : l.places ≡ replaced (λ p. passed p l.dependents) l.place-index l.fn.places;
  precedes : Precedes l.next l.dependents (drop l.place-index l.fn.places);
}
