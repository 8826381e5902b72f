use Rattle.std.proofs.Common.{take}
use Rattle.hii_questions.proofs.BehindLemmas.{AreBefore}
use Rattle.hii_questions.proofs.steps.steps_in_order.Given as goal

-- the steps of the fields so far
abbrev pub invariant-loop-number : goal.invariant-loop-number
invariant-loop-number l = AreBefore l.none (take l.number l.questions) l.end l.steps.items
