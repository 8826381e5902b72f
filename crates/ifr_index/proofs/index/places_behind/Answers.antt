use Rattle.std.proofs.Common.{ℕ, nat_le, rules, ◌∙◌}
use Rattle.std.proofs.lemmas.List.{take_rest}
use Rattle.std.proofs.lemmas.List.Sorted.{IsPartitionPoint-from_clause}
use Rattle.ifr_index.proofs.BehindPlaceLemmas.{parted, behind_point}
use Rattle.ifr_index.proofs.index.places_behind.Goals as goal

pub returns : goal.returns
returns c = λ low rise.
    let xs = c.args.places.now in
    let itself = λ (p : ℕ). p in
    let first = c.partition_point-first.result in
    let point = IsPartitionPoint-from_clause (λ (p : ℕ). nat_le p c.args.place) xs first c.partition_point-first.ensures.partitioned (parted itself low c.args.place xs rise) (λ a r q called. search rules) in
    take_rest xs first ∙ behind_point itself c.args.place first xs point
