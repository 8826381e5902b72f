use Rattle.std.proofs.Common.{◌≡◌, ◌+◌, ◌≤◌, slice_range, length, sym, ◌∙◌, arith}
use Rattle.std.proofs.lemmas.Slice.Eq.{bytes_eq-Decides}
use Rattle.kept_conditions.proofs.FirstLemmas.{same_range}
use Rattle.kept_conditions.proofs.differences.behind_same_blocks.Goals as goal

pub loop-at-preserved : goal.loop-at-preserved
loop-at-preserved c =
    let at = c.loop-at.at in
    let inside : at + 64 ≤ length c.args.old.now = omega (arith, c.loop-at-test.true, c.saturating_sub.ensures, c.requires.inside) in
    let same : slice_range c.args.old.now at (at + 64) ≡ slice_range c.args.new.now at (at + 64) = (bytes_eq-Decides _ _).0 (sym c.eq.ensures ∙ c.if-eq.true) in
    record {
      from = omega (arith, c.loop-at.invariant.from);
      none = same_range c.args.old.now c.args.new.now c.args.from at (at + 64) c.requires.same inside same c.loop-at.invariant.none;
    }
