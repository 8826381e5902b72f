use Rattle.std.proofs.Common.{◌+◌, ap, drop, ◌∙◌, sym}
use Rattle.std.specs.Ordering.{nat_cmp}
use Rattle.std.proofs.lemmas.List.{at_drop_more}
use Rattle.unlock_audit.specs.Rising.{added_each}
use Rattle.unlock_audit.proofs.moves.rising.Goals as goal

pub loop-number-preserved : goal.loop-number-preserved
loop-number-preserved c =
    let i = c.loop-number.number-index in
    let its = c.loop-number.rising.keys in
    ap (λ keys. added_each nat_cmp keys (drop (i + 1) c.args.numbers.now)) c.in_ok-insert.ensures.keys ∙ sym (at_drop_more (added_each nat_cmp its) c.args.numbers.now i 0 c.loop-number-test.true) ∙ c.loop-number.invariant
