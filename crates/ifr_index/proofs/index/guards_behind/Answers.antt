use Rattle.std.proofs.Common.{nat_le, rules, ◌∙◌}
use Rattle.std.proofs.lemmas.List.{take_rest}
use Rattle.std.proofs.lemmas.List.Sorted.{IsPartitionPoint-from_clause}
use Rattle.ifr_index.specs.declared.index.GuardEntry.{GuardEntry}
use Rattle.ifr_index.proofs.BehindPlaceLemmas.{parted, behind_point}
use Rattle.ifr_index.proofs.index.guards_behind.Goals as goal

pub returns : goal.returns
returns c = λ low rise.
    let xs = c.args.guards.now in
    let place = λ (x : GuardEntry). x.place in
    let first = c.partition_point-first.result in
    let point = IsPartitionPoint-from_clause (λ (x : GuardEntry). nat_le x.place c.args.place) xs first c.partition_point-first.ensures.partitioned (parted place low c.args.place xs rise) (λ a r q called. search rules) in
    take_rest xs first ∙ behind_point place c.args.place first xs point
