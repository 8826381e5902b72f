use Rattle.std.proofs.Common.{◌-◌, ◌≤◌, length, take}
use Rattle.hii_dumps.specs.code.Lists.{AreLists}
use Rattle.hii_dumps.proofs.dump.Dump.read.Given as goal

abbrev pub invariant-loop-length : goal.invariant-loop-length
invariant-loop-length l = record { lists : AreLists (take l.end l.dump); inside : l.end ≤ length l.dump }

abbrev pub decreases-loop-length : goal.decreases-loop-length
decreases-loop-length l = length l.dump - l.end
