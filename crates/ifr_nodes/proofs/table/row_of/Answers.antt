use Rattle.std.proofs.Common.{◌≡◌, None, map, refl, sym, ap, ◌∙◌, arith}
use Rattle.std.specs.List.{range_with_len}
use Rattle.ifr_opcodes.specs.Rows.{row_of}
use Rattle.ifr_opcodes.proofs.ColumnLemmas.{at_each}
use Rattle.ifr_nodes.specs.Table.{row}
use Rattle.ifr_nodes.specs.declared.columns.TheConstants.{ROWS}
use Rattle.ifr_nodes.proofs.table.row_of.Goals as goal

-- the column says at each number of one byte what the table says
same : map (λ r. r) ROWS ≡ map row (range_with_len 0 256)
unfolding row row_of
same = refl

pub returns : goal.returns
returns c = sym (at_each (λ r. r) row ROWS 256 same c.from.result None (omega arith)) ∙ ap row c.from.ensures
