use Rattle.std.proofs.Common.{◌≡◌, ◌<◌, ◌∙◌, false, length, get_or, rules, sym, arith}
use Rattle.std.proofs.lemmas.List.Sorted.{IsPartitionPoint-from_clause}
use Rattle.hii_values.specs.code.OptionPlaces.{is_up_to}
use Rattle.hii_values.proofs.OrderLemmas.{front_none, front_one}
use Rattle.hii_values.proofs.option_table.count_up_to.Goals as goal
use Rattle.hii_values.proofs.option_table.count_up_to.Goals.{else-places-gt1-via-then-places-gt1+else-is_up_to, else-places-gt1-via-else-places-gt1, else-places-gt0-via-then-places-gt0+else-is_up_to-2, else-places-gt0-via-else-places-gt0}

pub returns-then-is_up_to-clause-point : goal.returns-then-is_up_to-clause-point
returns-then-is_up_to-clause-point c = IsPartitionPoint-from_clause (is_up_to c.args.ifr.now c.args.value) c.args.places.now c.partition_point.result c.partition_point.ensures.partitioned c.requires (λ a r q called. search rules)

pub returns-then-is_up_to-2-clause-point : goal.returns-then-is_up_to-2-clause-point
returns-then-is_up_to-2-clause-point c =
    let up = is_up_to c.args.ifr.now c.args.value in
    let xs = c.args.places.now in
    let second : 1 < length xs → up (get_or xs 1 0) ≡ false = elim c.else-places-gt1.branch [
      | else-places-gt1-via-then-places-gt1+else-is_up_to w ↦ λ lt. sym w.is_up_to.ensures ∙ w.if-is_up_to.false
      | else-places-gt1-via-else-places-gt1 w ↦ λ lt. absurd (omega (arith, w.if-places-gt1.false, lt))
    ] in
    front_one up xs 0 c.if-places-gt0.true (sym c.is_up_to-then-places-gt0.ensures ∙ c.if-is_up_to-2.true) second c.requires

pub returns-clause-point : goal.returns-clause-point
returns-clause-point c =
    let up = is_up_to c.args.ifr.now c.args.value in
    let xs = c.args.places.now in
    let first : 0 < length xs → up (get_or xs 0 0) ≡ false = elim c.else-places-gt0.branch [
      | else-places-gt0-via-then-places-gt0+else-is_up_to-2 w ↦ λ lt. sym w.is_up_to-then-places-gt0.ensures ∙ w.if-is_up_to-2.false
      | else-places-gt0-via-else-places-gt0 w ↦ λ lt. absurd (omega (arith, w.if-places-gt0.false, lt))
    ] in
    front_none up xs 0 first c.requires
