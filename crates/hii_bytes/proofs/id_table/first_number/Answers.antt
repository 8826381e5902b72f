use Rattle.std.proofs.Common.{◌≡◌, ◌<◌, ltb, length, get_or, rules, sym, ap, arith}
use Rattle.std.specs.Prelude.{option_map}
use Rattle.std.proofs.lemmas.List.Sorted.{IsPartitionPoint-from_clause}
use Rattle.hii_bytes.specs.declared.id_table.IdEntry.{IdEntry}
use Rattle.hii_bytes.proofs.SearchLemmas.{parted, first_there, first_past}
use Rattle.hii_bytes.proofs.id_table.first_number.Goals as goal
use Rattle.hii_bytes.proofs.id_table.first_number.Goals.{else-first-entries-via-then-first-entries+else-entries-first, else-first-entries-via-else-first-entries}

pub returns-then-entries-first : goal.returns-then-entries-first
returns-then-entries-first c =
    let entries = c.args.entries.now in
    let id = c.args.id in
    let first = c.partition_point-first.result in
    let split = IsPartitionPoint-from_clause (λ (e : IdEntry). ltb e.id id) entries first c.partition_point-first.ensures.partitioned (parted (λ (e : IdEntry). e.id) entries id c.requires) (λ a r q called. search rules) in
    sym (ap (option_map (λ (e : IdEntry). e.number)) (first_there (λ (e : IdEntry). e.id) entries id first _ split c.if-first-entries.true c.if-entries-first.true))

pub returns : goal.returns
returns c =
    let entries = c.args.entries.now in
    let id = c.args.id in
    let first = c.partition_point-first.result in
    let split = IsPartitionPoint-from_clause (λ (e : IdEntry). ltb e.id id) entries first c.partition_point-first.ensures.partitioned (parted (λ (e : IdEntry). e.id) entries id c.requires) (λ a r q called. search rules) in
    let other : first < length entries → (get_or entries first (record { id = 0; number = 0 })).id ≡ id → ⊥ = elim c.else-first-entries.branch [
      | else-first-entries-via-then-first-entries+else-entries-first w ↦ λ lt. w.if-entries-first.false
      | else-first-entries-via-else-first-entries w ↦ λ lt is. absurd (omega (arith, w.if-first-entries.false))
    ] in
    sym (ap (option_map (λ (e : IdEntry). e.number)) (first_past (λ (e : IdEntry). e.id) entries id first split c.requires (record { id = 0; number = 0 }) other))
