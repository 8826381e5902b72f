use Rattle.std.proofs.Common.{◌+◌, ◌-◌, ◌≤◌, length}
use Rattle.std.specs.Io.KnownBytes.{Consumes}
use Rattle.hii_bytes.specs.Watching.{inner_of}
use Rattle.setup_files.specs.declared.reading.TheConstants.{FILE_LIMIT}
use Rattle.setup_files.proofs.reading.read_whole.Given as goal

-- the bytes read so far, at most one past the limit
abbrev pub invariant-loop-piece : goal.invariant-loop-piece
invariant-loop-piece g l = record {
  consumed : Consumes (g.R.Read.remaining (inner_of l.fn.reader)) (g.R.Read.remaining (inner_of l.reader)) l.bytes.items;
  few : length l.bytes.items ≤ FILE_LIMIT + 1;
}

abbrev pub decreases-loop-piece : goal.decreases-loop-piece
decreases-loop-piece g l = (FILE_LIMIT + 1) - length l.bytes.items
