use Rattle.std.proofs.Common.{◌≡◌, take, vec_capacity}
use Rattle.hii_questions.proofs.DifferingLemmas.{differing}
use Rattle.hii_questions.proofs.questions.Questions.differing_into.Given as goal

-- the ids of the questions so far that differ are there
abbrev pub invariant-loop-entry : goal.invariant-loop-entry
invariant-loop-entry l = record {
  ids : l.ids.items ≡ differing l.self-inside.ifr.now l.one l.other (take l.entry-index l.entry-items);
  room : vec_capacity l.ids ≡ vec_capacity l.fn.ids;
}
