use Rattle.std.proofs.Common.{◌≡◌, take}
use Rattle.hii_varstore.proofs.TableLemmas.{entries_from}
use Rattle.hii_varstore.proofs.table.Table.new.Given as goal

-- the entries of the stores so far
abbrev pub invariant-loop-place : goal.invariant-loop-place
invariant-loop-place l = l.places.items ≡ entries_from 0 (take l.place l.fn.buffers.items)
