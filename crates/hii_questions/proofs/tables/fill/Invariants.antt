use Rattle.std.proofs.Common.{◌≡◌, ◌-◌, ◌++◌, length, replicate}
use Rattle.hii_questions.proofs.tables.fill.Given as goal

-- the numbers so far, and those that are left
abbrev pub invariant-loop-numbers : goal.invariant-loop-numbers
invariant-loop-numbers l =
    l.numbers.items ++ replicate (l.count - length l.numbers.items) l.number
    ≡ l.initial.numbers.items ++ replicate (l.count - length l.initial.numbers.items) l.number

abbrev pub decreases-loop-numbers : goal.decreases-loop-numbers
decreases-loop-numbers l = l.count - length l.numbers.items
