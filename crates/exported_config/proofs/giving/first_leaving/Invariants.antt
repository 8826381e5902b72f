use Rattle.std.proofs.Common.{◌≡◌, drop, map}
use Rattle.std.specs.List.{find}
use Rattle.exported_config.specs.Giving.{leaves}
use Rattle.exported_config.specs.code.Views.{block_view}
use Rattle.exported_config.proofs.giving.first_leaving.Given as goal

-- the first of the blocks that are left is that of all
abbrev pub invariant-loop-block : goal.invariant-loop-block
invariant-loop-block l =
    find (leaves l.size) (map block_view (drop l.block-index l.blocks)) ≡ find (leaves l.size) (map block_view l.blocks)
