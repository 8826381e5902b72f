use Rattle.std.proofs.Common.{sym}
use Rattle.sibt_strings.proofs.BlockLemmas.{leads_start, leads_on}
use Rattle.sibt_strings.proofs.blocks.check_blocks.Goals as goal

pub walk-init : goal.walk-init
walk-init c = leads_start c.args.blocks.now

pub walk-preserved : goal.walk-preserved
walk-preserved c = leads_on c.args.blocks.now c.walk.rest.now _ _ c.walk.invariant (sym c.in-Whole.ensures.front) c.in-Whole.ensures.shorter
