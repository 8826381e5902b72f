use Rattle.std.proofs.Common.{length}
use Rattle.sibt_strings.proofs.TableLemmas.{Walked}
use Rattle.sibt_strings.proofs.places.places_of_texts.Given as goal

abbrev pub invariant-walk : goal.invariant-walk
invariant-walk l = Walked l.blocks l.rest l.found

abbrev pub decreases-walk : goal.decreases-walk
decreases-walk l = length l.rest
