use Rattle.std.proofs.Common.{◌-◌, sym, subst, arith}
use Rattle.kept_conditions.specs.code.Index.{IsNear}
use Rattle.kept_conditions.proofs.SummaryLemmas.{below_later, near_greater, near_own_end}
use Rattle.kept_conditions.proofs.index.reach_at.Goals as goal

pub returns-clause-near : goal.returns-clause-near
returns-clause-near c =
    let rs = c.args.dependencies.now in
    let at = c.args.at in
    let end : IsNear rs at c.behind-end.result = subst (IsNear rs at) (sym c.behind-end.ensures) (near_own_end rs at) in
    let before = below_later rs c.requires.sorted at c.requires.inside (at - 1) c.past_first.result (omega arith) c.past_first.ensures.near in
    subst (IsNear rs at) (sym c.max.ensures) (near_greater rs c.requires.sorted at c.requires.inside c.behind-end.result c.past_first.result end before)
