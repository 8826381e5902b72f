use Rattle.std.proofs.Common.{◌≡◌, ◌≤◌, ◌-◌, length, drop}
use Rattle.hii_languages.specs.code.Names.{text_order}
use Rattle.hii_languages.proofs.names.text_order.Given as goal

-- the bytes before this place are the same
abbrev pub invariant-loop-at : goal.invariant-loop-at
invariant-loop-at l = (l.at ≤ length l.one) × (l.at ≤ length l.other)
    × (text_order l.one l.other ≡ text_order (drop l.at l.one) (drop l.at l.other))

abbrev pub decreases-loop-at : goal.decreases-loop-at
decreases-loop-at l = length l.one - l.at
