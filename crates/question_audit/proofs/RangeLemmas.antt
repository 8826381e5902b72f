-- All ids are gone through.
use Rattle.std.proofs.Common.{◌≡◌, ℕ, suc, ◌+◌, ◌-◌, ◌<◌, ◌≤◌, [], ◌∷◌, ap, arith}
use Rattle.std.specs.List.{range_with_len}
use Rattle.question_audit.specs.Dependences.{all_ids}

from_start : (limit : ℕ) → range_with_len 0 (limit - 0) ≡ range_with_len 0 limit
from_start limit = ap (range_with_len 0) (omega arith)

pub all_at_start : range_with_len 0 (65536 - 0) ≡ all_ids
unfolding all_ids
all_at_start = from_start 65536

pub next_id : (limit k : ℕ) → k < limit → range_with_len k (limit - k) ≡ k ∷ range_with_len (k + 1) (limit - (k + 1))
next_id limit k lt = let more : limit - k ≡ suc (limit - (k + 1)) = omega arith in ap (range_with_len k) more

pub no_more : (limit k : ℕ) → limit ≤ k → range_with_len k (limit - k) ≡ []
no_more limit k le = let none : limit - k ≡ 0 = omega arith in ap (range_with_len k) none
