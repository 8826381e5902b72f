use Rattle.std.proofs.Common.{◌≡◌, drop, map, length, replicate, false, None}
use Rattle.std.specs.List.{find}
use Rattle.exported_config.specs.Giving.{all_laid, marked, leaves}
use Rattle.exported_config.specs.code.Views.{block_view}
use Rattle.exported_config.proofs.giving.count_laid.Given as goal

-- the blocks that are left, laid over what is there, are all blocks; none leaves the store
abbrev pub invariant-loop-block : goal.invariant-loop-block
invariant-loop-block l =
    (all_laid marked l.marks.items (map block_view (drop l.block-index l.blocks))
    ≡ all_laid marked (replicate l.size false) (map block_view l.blocks))
    × (length l.marks.items ≡ l.size)
    × (find (leaves l.size) (map block_view (drop l.block-index l.blocks)) ≡ None)
