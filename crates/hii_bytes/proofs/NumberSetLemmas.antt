-- Sets of numbers of 16 bits.
use Rattle.std.proofs.Common.{◌≡◌, ℕ, false, ltb, replicate, inl, inr}
use Rattle.std.proofs.lemmas.Bool.{cases_Bool, ltb-true, ltb-false}
use Rattle.std.proofs.lemmas.List.{get_or-replicate, get_or_past, length-replicate}
use Rattle.hii_bytes.specs.code.NumberSets.{has_number}

-- a table of nothing but false has no number
pub has_number-none : (n number : ℕ) → has_number (replicate n false) number ≡ false
has_number-none n number = elim (cases_Bool (ltb number n)) [
  | inl inside ↦ get_or-replicate n number false false (ltb-true number n inside)
  | inr past ↦ get_or_past (replicate n false) number false (rw (length-replicate n false) (ltb-false number n past))
]
