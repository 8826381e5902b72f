use Rattle.std.proofs.Common.{◌≡◌, ◌∙◌, ◌<◌, false, length, get_or, rules, sym, arith}
use Rattle.std.proofs.lemmas.List.Sorted.{IsPartitionPoint-from_clause}
use Rattle.hii_values.proofs.OrderLemmas.{front_none, front_one}
use Rattle.hii_questions.specs.code.ByField.{is_up_to}
use Rattle.hii_questions.proofs.by_field.count_up_to.Goals as goal
use Rattle.hii_questions.proofs.by_field.count_up_to.Goals.{else-numbers-gt1-via-then-numbers-gt1+else-is_up_to, else-numbers-gt1-via-else-numbers-gt1, else-numbers-gt0-via-then-numbers-gt0+else-is_up_to-2, else-numbers-gt0-via-else-numbers-gt0}

pub returns-then-is_up_to-clause-point : goal.returns-then-is_up_to-clause-point
returns-then-is_up_to-clause-point c = IsPartitionPoint-from_clause (is_up_to c.args.questions.now c.args.field) c.args.numbers.now c.partition_point.result c.partition_point.ensures.partitioned c.requires (λ a r q called. search rules)

pub returns-then-is_up_to-2-clause-point : goal.returns-then-is_up_to-2-clause-point
returns-then-is_up_to-2-clause-point c =
    let up = is_up_to c.args.questions.now c.args.field in
    let xs = c.args.numbers.now in
    let second : 1 < length xs → up (get_or xs 1 0) ≡ false = elim c.else-numbers-gt1.branch [
      | else-numbers-gt1-via-then-numbers-gt1+else-is_up_to w ↦ λ lt. sym w.is_up_to.ensures ∙ w.if-is_up_to.false
      | else-numbers-gt1-via-else-numbers-gt1 w ↦ λ lt. absurd (omega (arith, w.if-numbers-gt1.false, lt))
    ] in
    front_one up xs 0 c.if-numbers-gt0.true (sym c.is_up_to-then-numbers-gt0.ensures ∙ c.if-is_up_to-2.true) second c.requires

pub returns-clause-point : goal.returns-clause-point
returns-clause-point c =
    let up = is_up_to c.args.questions.now c.args.field in
    let xs = c.args.numbers.now in
    let first : 0 < length xs → up (get_or xs 0 0) ≡ false = elim c.else-numbers-gt0.branch [
      | else-numbers-gt0-via-then-numbers-gt0+else-is_up_to-2 w ↦ λ lt. sym w.is_up_to-then-numbers-gt0.ensures ∙ w.if-is_up_to-2.false
      | else-numbers-gt0-via-else-numbers-gt0 w ↦ λ lt. absurd (omega (arith, w.if-numbers-gt0.false, lt))
    ] in
    front_none up xs 0 first c.requires
