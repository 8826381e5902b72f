use Rattle.std.proofs.Common.{length}
use Rattle.sibt_strings.proofs.BlockLemmas.{LeadsTo}
use Rattle.sibt_strings.proofs.blocks.check_blocks.Given as goal

abbrev pub invariant-walk : goal.invariant-walk
invariant-walk l = LeadsTo l.blocks l.rest

abbrev pub decreases-walk : goal.decreases-walk
decreases-walk l = length l.rest
