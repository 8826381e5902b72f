use Rattle.std.proofs.Common.{◌≡◌}
use Rattle.ifr_scopes.specs.code.AroundViews.{around_guards}
use Rattle.ifr_scopes.specs.code.Lists.{outward_left}
use Rattle.guard_policy.specs.Policy.{hidden_among, hides, hiding}
use Rattle.guard_policy.specs.code.Views.{world_by}
use Rattle.guard_policy.proofs.CoveringLemmas.{outermost}
use Rattle.guard_policy.proofs.policy.Policy.hidden.Given as goal

-- the denial of the outermost that hides of the guards that were met is held
abbrev pub invariant-loop-guard : goal.invariant-loop-guard
invariant-loop-guard g l =
    let w = world_by l.self (g.V.Verdicts.met l.verdicts) in
    record {
      can : (goal.iterator-loop-guard g).can_next l.guards;
      ends : (goal.iterator-loop-guard g).is_finite l.guards;
      same : outermost hiding (hides w) (outward_left l.guards) l.hidden ≡ hidden_among w (around_guards l.around);
    }
