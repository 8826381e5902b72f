use Rattle.std.proofs.Common.{length, ◌↔◌}
use Rattle.config_text.specs.code.BlocksLeft.{blocks_left}
use Rattle.config_text.specs.Written.{AreInside}
use Rattle.config_text.proofs.blocks.Blocks.are_inside.Given as goal

-- the blocks before those that are left lie inside
abbrev pub invariant-loop-block : goal.invariant-loop-block
invariant-loop-block l = AreInside (blocks_left l.fn.self) l.size ↔ AreInside (blocks_left l.blocks) l.size

abbrev pub decreases-loop-block : goal.decreases-loop-block
decreases-loop-block l = length (blocks_left l.blocks)
