use Rattle.std.proofs.Common.{ℕ, ◌-◌, length, take, drop, is_lt, rules}
use Rattle.std.specs.Cmp.{nat_cmp_total}
use Rattle.std.specs.Ordering.{nat_cmp}
use Rattle.std.proofs.lemmas.List.{take_rest}
use Rattle.std.proofs.lemmas.List.Sorted.{IsPartitionPoint-from_clause}
use Rattle.hii_values.specs.code.OptionPlaces.{value_at}
use Rattle.hii_values.proofs.OptionTableLemmas.{found_with}
use Rattle.hii_values.proofs.OrderLemmas.{parted_le, parted_lt}
use Rattle.hii_values.proofs.option_table.found_among.Goals as goal

pub count_up_to-requires : goal.count_up_to-requires
count_up_to-requires c =
    let xs = c.args.places.now in
    let from = c.partition_point-before.result in
    parted_le nat_cmp_total (value_at c.args.ifr.now) c.args.value xs (take (length xs - from) (drop from xs)) from (take_rest xs from) c.requires

pub returns : goal.returns
returns c =
    let bytes = c.args.ifr.now in
    let value = c.args.value in
    let xs = c.args.places.now in
    let from = c.partition_point-before.result in
    let below = IsPartitionPoint-from_clause (λ (p : ℕ). is_lt (nat_cmp (value_at bytes p) value)) xs from c.partition_point-before.ensures.partitioned
    (parted_lt nat_cmp_total (value_at bytes) value xs c.requires) (λ a r q called. search rules) in
    found_with bytes value xs (take (length xs - from) (drop from xs)) from c.count_up_to.result (take_rest xs from) below c.count_up_to.ensures.point
