use Rattle.std.proofs.Common.{◌-◌, ℕ, Some, length, take, drop, filter, is_lt, rules, ap, ◌∙◌}
use Rattle.std.specs.Option.{option_cmp}
use Rattle.std.proofs.lemmas.List.{take_rest}
use Rattle.std.proofs.lemmas.List.Sorted.{IsPartitionPoint-from_clause}
use Rattle.hii_questions.specs.code.ByField.{numbered_field, range_cmp}
use Rattle.hii_questions.proofs.FieldLemmas.{range_total, ties_at}
use Rattle.hii_values.proofs.OrderLemmas.{found_between, parted_le, parted_lt}
use Rattle.hii_questions.proofs.by_field.questions_with.Goals as goal

pub count_up_to-requires : goal.count_up_to-requires
count_up_to-requires c =
    let xs = c.args.by_field.now in
    let from = c.partition_point-first.result in
    parted_le range_total (numbered_field c.args.questions.now) (Some c.args.field) xs (take (length xs - from) (drop from xs)) from (take_rest xs from) c.requires

pub returns : goal.returns
returns c =
    let field = numbered_field c.args.questions.now in
    let xs = c.args.by_field.now in
    let from = c.partition_point-first.result in
    let count = c.count_up_to.result in
    let wanted = Some c.args.field in
    let rest = take (length xs - from) (drop from xs) in
    let is = take_rest xs from in
    let below = IsPartitionPoint-from_clause (λ (n : ℕ). is_lt (option_cmp range_cmp (field n) wanted)) xs from c.partition_point-first.ensures.partitioned
    (parted_lt range_total field wanted xs c.requires) (λ a r q called. search rules) in
    found_between range_total field wanted xs rest from count is below c.count_up_to.ensures.point ∙ ap (λ p. filter p xs) (ties_at c.args.questions.now c.args.field)
