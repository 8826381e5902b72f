use Rattle.std.proofs.Common.{length, ◌<◌, ap, nat_lt, ◌&&◌, inl, inr, arith}
use Rattle.std.proofs.lemmas.Bool.{and_from, and_right, cases_lt, le-ltb, lt-ltb}
use Rattle.kept_conditions.specs.code.Invalidation.{other_at}
use Rattle.kept_conditions.proofs.DifferenceLemmas.{unequal_at}
use Rattle.kept_conditions.proofs.FirstLemmas.{same_more}
use Rattle.kept_conditions.proofs.differences.first_difference.Goals as goal

pub loop-at-init : goal.loop-at-init
loop-at-init c = c.behind_same_blocks-at.ensures.none

pub returns-then-old-at : goal.returns-then-old-at
returns-then-old-at c =
    let xs = c.args.old.now in
    let ys = c.args.new.now in
    let at = c.loop-at.at in
    let inside : at < length xs = omega (arith, c.loop-at-test.true, c.requires.inside) in
    let other = unequal_at xs ys at inside (omega (arith, inside, c.requires.same)) c.if-old-at.true in (
      omega (arith, c.behind_same_blocks-at.ensures.from, c.loop-at.auto.at),
      and_from (nat_lt at c.args.end) (other_at xs ys 0 at) (lt-ltb at c.args.end c.loop-at-test.true) other,
      λ k above below. and_right (nat_lt k c.args.end) (other_at xs ys 0 k) (c.loop-at.invariant k above below),
    )

pub loop-at-preserved : goal.loop-at-preserved
loop-at-preserved c =
    same_more c.args.old.now c.args.new.now c.args.from c.loop-at.at c.requires.same (omega (arith, c.loop-at-test.true, c.requires.inside)) c.if-old-at.false c.loop-at.invariant

pub returns : goal.returns
returns c = λ k above.
    let other = other_at c.args.old.now c.args.new.now 0 k in
    elim (cases_lt k c.args.end) [
      | inl before ↦ and_right (nat_lt k c.args.end) other (c.loop-at.invariant k above (omega (arith, before, c.loop-at-test.false)))
      | inr behind ↦ ap (λ b. b && other) (le-ltb k c.args.end behind)
    ]
