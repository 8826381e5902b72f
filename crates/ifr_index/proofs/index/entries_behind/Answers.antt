use Rattle.std.proofs.Common.{◌+◌, ℕ, None, add-one, ap, drop, filter, nat_le, nat_lt, rules, ◌∙◌}
use Rattle.std.proofs.lemmas.List.{take_rest}
use Rattle.std.proofs.lemmas.List.Sorted.{IsPartitionPoint-from_clause}
use Rattle.ifr_index.specs.declared.index.Entry.{Entry}
use Rattle.ifr_index.proofs.BehindPlaceLemmas.{behind_at, parted, behind_point}
use Rattle.ifr_index.proofs.index.entries_behind.Goals as goal

pub returns-then-entries-at : goal.returns-then-entries-at
returns-then-entries-at c = λ low rise.
    let xs = c.args.entries.now in
    let at = c.args.position in
    let place = λ (x : Entry). x.place in
    let none : Entry = record { place = 0; code = 0; guard = None; lock = None } in
    take_rest xs (at + 1) ∙ ap (λ (k : ℕ). drop k xs) (add-one at) ∙ behind_at place low at xs none rise c.if-at-entries.true
    ∙ ap (λ (p : ℕ). filter (λ (x : Entry). nat_lt p x.place) xs) c.if-entries-at.true

pub returns : goal.returns
returns c = λ low rise.
    let xs = c.args.entries.now in
    let place = λ (x : Entry). x.place in
    let first = c.partition_point-first.result in
    let point = IsPartitionPoint-from_clause (λ (x : Entry). nat_le x.place c.args.place) xs first c.partition_point-first.ensures.partitioned (parted place low c.args.place xs rise) (λ a r q called. search rules) in
    take_rest xs first ∙ behind_point place c.args.place first xs point
