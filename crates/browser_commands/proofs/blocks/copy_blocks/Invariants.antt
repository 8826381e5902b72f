use Rattle.std.proofs.Common.{take}
use Rattle.config_text.specs.code.BlocksLeft.{blocks_left}
use Rattle.browser_commands.proofs.RouteLemmas.{CopyLeft}
use Rattle.browser_commands.proofs.blocks.copy_blocks.Given as goal

-- the blocks that are left are to be copied
abbrev pub invariant-loop-count : goal.invariant-loop-count
invariant-loop-count l = CopyLeft l.store (take l.fn.count (blocks_left l.fn.blocks)) (take l.count (blocks_left l.blocks)) l.from l.fn.into l.into

abbrev pub decreases-loop-count : goal.decreases-loop-count
decreases-loop-count l = l.count
