use Rattle.std.proofs.Common.{◌≡◌, drop, map, length, replicate, None}
use Rattle.std.specs.List.{find}
use Rattle.exported_config.specs.Giving.{all_laid, laid, leaves}
use Rattle.exported_config.specs.code.Views.{block_view}
use Rattle.exported_config.proofs.giving.bytes_laid.Given as goal

-- the blocks that are left, laid over what is there, are all blocks; none leaves the store
abbrev pub invariant-loop-block : goal.invariant-loop-block
invariant-loop-block l =
    (all_laid laid l.bytes.items (map block_view (drop l.block-index l.blocks))
    ≡ all_laid laid (replicate l.size 0) (map block_view l.blocks))
    × (length l.bytes.items ≡ l.size)
    × (find (leaves l.size) (map block_view (drop l.block-index l.blocks)) ≡ None)
