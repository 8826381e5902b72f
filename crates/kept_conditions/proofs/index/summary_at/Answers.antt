use Rattle.std.proofs.Common.{◌≤◌, ◌-◌, ℕ, sym, subst, arith}
use Rattle.kept_conditions.specs.code.Index.{IsNear, at_place, behind_of}
use Rattle.kept_conditions.proofs.SummaryLemmas.{below_later, joined, near_greater}
use Rattle.kept_conditions.proofs.index.summary_at.Goals as goal

pub loop-len-preserved : goal.loop-len-preserved
loop-len-preserved c =
    let rs = c.args.dependencies.now in
    let at = c.args.at in
    let len = c.loop-len.len in
    let was = c.loop-len.invariant in
    let other = c.past_first-before in
    let inside : len ≤ at = c.loop-len-test.true in
    let earlier : at - len ≤ at = omega arith in
    let summary = c.requires.summaries (at - len) (omega (arith, c.requires.behind, was.some, inside)) in
    let near = near_greater rs c.requires.sorted at c.requires.inside c.loop-len.max_end other.result was.near (below_later rs c.requires.sorted at c.requires.inside (at - len) other.result earlier other.ensures.near) in
    record {
      some = omega (arith, was.some);
      within = omega (arith, summary.within, c.if-summaries-at.true, inside);
      small = omega (arith, c.if-len-le-MOST_JOINED.true);
      below = λ j low high. subst (λ (m : ℕ). behind_of (at_place rs j) ≤ m) (sym c.max-max_end.ensures)
          (joined rs at len c.loop-len.max_end other.result _ inside c.if-summaries-at.true summary other.ensures.is was.below j low high);
      near = subst (IsNear rs at) (sym c.max-max_end.ensures) near;
    }
