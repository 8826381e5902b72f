use Rattle.std.proofs.Common.{◌≡◌, ◌-◌}
use Rattle.sibt_strings.specs.code.Views.{EndsWith}
use Rattle.sibt_strings.proofs.TextLemmas.{rest_of_texts}
use Rattle.sibt_strings.proofs.front.skip_texts.Given as goal

-- what is left of the texts ends where all of them do
abbrev pub invariant-loop : goal.invariant-loop
invariant-loop l = record {
  inside : EndsWith l.bytes l.rest;
  same : rest_of_texts (l.count - l.counter) l.rest ≡ rest_of_texts l.count l.bytes;
}
