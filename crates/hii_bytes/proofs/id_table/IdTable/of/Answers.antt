use Rattle.std.proofs.Common.{rules}
use Rattle.std.proofs.lemmas.List.Sorted.{answers_always}
use Rattle.hii_bytes.specs.declared.id_table.IdEntry.{IdEntry}
use Rattle.hii_bytes.proofs.SearchLemmas.{same_numbers}
use Rattle.hii_bytes.proofs.id_table.IdTable.of.Goals as goal

pub invariant_of-result : goal.invariant_of-result
invariant_of-result c = c.in_ok-sort_by_key.ensures.sorted (λ (e : IdEntry). e.id) (answers_always _ _ _ (λ e a r g called. search rules))

pub returns : goal.returns
returns c = same_numbers c.args.entries.items c.sort_by_key.new.self.items (c.in_ok-sort_by_key.ensures.stable (λ (e : IdEntry). e.id) (answers_always _ _ _ (λ e a r g called. search rules)))
