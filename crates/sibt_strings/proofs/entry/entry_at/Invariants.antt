use Rattle.std.proofs.Common.{◌+◌, ◌-◌, ◌≤◌, List, length}
use Rattle.sibt_strings.specs.code.Blocks.{Block, AreBlocks}
use Rattle.sibt_strings.proofs.IdLemmas.{Left}
use Rattle.sibt_strings.proofs.entry.entry_at.Given as goal

-- the id stands behind so many others in what is left
abbrev pub invariant-walk : goal.invariant-walk
invariant-walk l = record {
  within : l.before + 1 ≤ l.id;
  left : (whole : List Block) → AreBlocks l.blocks whole → Left l.rest (l.id - (l.before + 1)) whole;
}

abbrev pub decreases-walk : goal.decreases-walk
decreases-walk l = length l.rest
