use Rattle.std.proofs.Common.{length}
use Rattle.sibt_strings.specs.code.Texts.{IsRest}
use Rattle.sibt_strings.proofs.front.behind_units.Given as goal

abbrev pub invariant-loop-rest : goal.invariant-loop-rest
invariant-loop-rest l = IsRest l.bytes l.rest

abbrev pub decreases-loop-rest : goal.decreases-loop-rest
decreases-loop-rest l = length l.rest
