use Rattle.std.proofs.Common.{length}
use Rattle.std.specs.List.{flat_map}
use Rattle.hii_bytes.specs.Watching.{pen_of}
use Rattle.hii_bytes.specs.code.Writing.{Stands}
use Rattle.config_text.specs.code.BlocksLeft.{blocks_left}
use Rattle.config_text.specs.Written.{AreInside}
use Rattle.config_text.specs.code.Written.{block_text}
use Rattle.config_text.proofs.write.put_blocks.Given as goal

-- the blocks before those that are left were written
abbrev pub invariant-loop-block : goal.invariant-loop-block
invariant-loop-block g l = AreInside (blocks_left l.blocks) (length l.store)
    × Stands (pen_of g.W.Write.contents l.fn.out) (pen_of g.W.Write.contents l.out) (flat_map (block_text l.store) (blocks_left l.fn.blocks)) (flat_map (block_text l.store) (blocks_left l.blocks))

abbrev pub decreases-loop-block : goal.decreases-loop-block
decreases-loop-block g l = length (blocks_left l.blocks)
