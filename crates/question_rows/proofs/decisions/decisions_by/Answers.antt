use Rattle.std.proofs.Common.{◌-◌, ℕ, length, take, drop, is_lt, is_le, rules}
use Rattle.std.specs.Ordering.{nat_cmp}
use Rattle.std.proofs.lemmas.Cmp.{nat_cmp_total}
use Rattle.std.proofs.lemmas.List.{take_rest}
use Rattle.std.proofs.lemmas.List.Sorted.{IsPartitionPoint-from_clause}
use Rattle.hii_values.proofs.OrderLemmas.{found_between, parted_le, parted_lt}
use Rattle.question_rows.specs.declared.decisions.Decision.{Decision}
use Rattle.question_rows.proofs.decisions.decisions_by.Goals as goal

pub returns : goal.returns
returns c =
    let xs = c.args.decisions.now in
    let by : Decision → ℕ = λ d. d.by in
    let from = c.partition_point-first.result in
    let count = c.partition_point.result in
    let rest = take (length xs - from) (drop from xs) in
    let is = take_rest xs from in
    let below = IsPartitionPoint-from_clause (λ (d : Decision). is_lt (nat_cmp d.by c.args.by)) xs from c.partition_point-first.ensures.partitioned
    (parted_lt nat_cmp_total by c.args.by xs c.requires) (λ a r q called. search rules) in
    let within = IsPartitionPoint-from_clause (λ (d : Decision). is_le (nat_cmp d.by c.args.by)) rest count c.partition_point.ensures.partitioned
    (parted_le nat_cmp_total by c.args.by xs rest from is c.requires) (λ a r q called. search rules) in
    found_between nat_cmp_total by c.args.by xs rest from count is below within
