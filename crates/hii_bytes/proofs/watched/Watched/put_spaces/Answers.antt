use Rattle.std.proofs.Common.{◌≡◌, ℕ, ◌+◌, ◌-◌, ◌≤◌, arith}
use Rattle.std.proofs.lemmas.List.{take-replicate}
use Rattle.hii_bytes.proofs.WritingLemmas.{writes_nil, spaces_more}
use Rattle.hii_bytes.proofs.watched.Watched.put_spaces.Goals as goal

pub loop-left-init : goal.loop-left-init
loop-left-init g c =
    let none : c.args.count - c.args.count ≡ 0 = omega arith in
    record { within = omega arith; written = rw none (writes_nil _) }

pub loop-left-preserved : goal.loop-left-preserved
loop-left-preserved g c =
    let some = c.min-some.result in
    let few : some ≤ 24 = omega (arith, c.min-some.ensures) in
    let more : some ≤ c.loop-left.left = omega (arith, c.min-some.ensures) in
    let before = c.args.count - c.loop-left.left in
    let sum : c.args.count - (c.loop-left.left - some) ≡ before + some = omega (arith, more, c.loop-left.invariant.within) in
    record {
      within = omega (arith, c.loop-left.invariant.within);
      written = rw sum (spaces_more before some c.loop-left.invariant.written (rw (take-replicate {X = ℕ} some 24 32 few) at c.put.ensures));
    }
