use Rattle.std.proofs.Common.{◌≡◌, length}
use Rattle.config_text.specs.code.BlocksLeft.{blocks_left}
use Rattle.browser_commands.proofs.RouteLemmas.{SetLeft}
use Rattle.browser_commands.proofs.blocks.set_blocks.Given as goal

-- the blocks that were met are set, and the spare stores are as before
abbrev pub invariant-loop-block : goal.invariant-loop-block
invariant-loop-block l = SetLeft l.policy l.store (blocks_left l.blocks) (blocks_left l.left) l.fn.working l.working l.count × (l.spare ≡ l.fn.spare)

abbrev pub decreases-loop-block : goal.decreases-loop-block
decreases-loop-block l = length (blocks_left l.left)
