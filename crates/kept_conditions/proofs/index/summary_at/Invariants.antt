use Rattle.std.proofs.Common.{◌≤◌, ◌<◌, ◌+◌, ◌-◌, ℕ}
use Rattle.kept_conditions.specs.code.Index.{IsNear, at_place, behind_of}
use Rattle.kept_conditions.proofs.index.summary_at.Given as goal

-- the blocks so far, joined
abbrev pub invariant-loop-len : goal.invariant-loop-len
invariant-loop-len l = record {
  some : 1 ≤ l.len;
  within : l.len ≤ l.at + 1;
  small : l.len ≤ 131072;
  below : (j : ℕ) → j ≤ l.at → l.at < j + l.len → behind_of (at_place l.dependencies j) ≤ l.max_end;
  near : IsNear l.dependencies l.at l.max_end;
}

abbrev pub decreases-loop-len : goal.decreases-loop-len
decreases-loop-len l = l.at + 1 - l.len
