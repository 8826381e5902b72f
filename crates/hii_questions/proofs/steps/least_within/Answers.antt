use Rattle.std.proofs.Common.{nat_le, arith, rules}
use Rattle.std.proofs.lemmas.List.{take_rest}
use Rattle.std.proofs.lemmas.List.Sorted.{IsPartitionPoint-from_clause}
use Rattle.hii_questions.specs.declared.merging.Step.{Step}
use Rattle.hii_questions.proofs.StepLemmas.{least_of, parted}
use Rattle.hii_questions.proofs.steps.least_within.Goals as goal

pub returns : goal.returns
returns c =
    let ss = c.args.steps.now in
    let begun = c.partition_point-begun.result in
    let point = IsPartitionPoint-from_clause (λ (s : Step). nat_le s.from c.args.from) ss begun c.partition_point-begun.ensures.partitioned (parted c.args.from ss c.requires) (λ a r q called. search rules) in
    let least = least_of ss c.args.none c.args.from c.args.end begun (omega (arith, c.if-from-end.false)) c.requires point in
    rw (c.min.ensures, c.told_behind.ensures, c.least_before.ensures, take_rest ss begun) least
