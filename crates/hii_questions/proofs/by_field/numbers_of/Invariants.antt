use Rattle.std.proofs.Common.{◌≡◌, ◌<◌, All, take}
use Rattle.hii_questions.specs.code.ByField.{entries_at}
use Rattle.hii_questions.proofs.by_field.numbers_of.Given as goal

-- the numbers of the first questions
abbrev pub invariant-loop-number : goal.invariant-loop-number
invariant-loop-number l = record {
  within : All (λ n. n < l.number) l.numbers.items;
  all : entries_at l.questions l.numbers.items ≡ take l.number l.questions;
}
