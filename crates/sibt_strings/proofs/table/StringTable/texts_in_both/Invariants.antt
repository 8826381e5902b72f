use Rattle.std.proofs.Common.{◌≡◌, ◌<◌, ◌≤◌, ◌^◌, take}
use Rattle.std.specs.List.{All, count_by}
use Rattle.sibt_strings.specs.Shared.{is_in_both}
use Rattle.sibt_strings.proofs.table.StringTable.texts_in_both.Given as goal

-- those before this place are counted
abbrev pub invariant-loop-place : goal.invariant-loop-place
invariant-loop-place l = record {
  counted : l.count ≡ count_by (λ p. is_in_both l.self l.other p.id) (take l.place-index l.place-items);
  few : l.count ≤ l.place-index;
  small : All (λ p. p.id < 2 ^ 16) (take l.place-index l.place-items);
}
