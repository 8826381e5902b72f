use Rattle.std.proofs.Common.{◌≡◌, None}
use Rattle.std.specs.Prelude.{option_map}
use Rattle.std.specs.List.{find}
use Rattle.hii_values.specs.declared.denial.DenialKind.TheVariants.{GrayOutIf}
use Rattle.ifr_scopes.specs.code.AroundViews.{around_guards}
use Rattle.ifr_scopes.specs.code.Lists.{outward_left}
use Rattle.guard_policy.specs.Policy.{denied_by, grays_out, hidden_among, hides, hiding}
use Rattle.guard_policy.specs.code.Views.{world_by}
use Rattle.guard_policy.proofs.CoveringLemmas.{outermost}
use Rattle.guard_policy.proofs.policy.Policy.deny_nothing.Given as goal

-- the guards that were met deny nothing
abbrev pub invariant-loop-guard : goal.invariant-loop-guard
invariant-loop-guard g l =
    let w = world_by l.self (g.V.Verdicts.met l.verdicts) in
    record {
      can : (goal.iterator-loop-guard g).can_next l.guards;
      ends : (goal.iterator-loop-guard g).is_finite l.guards;
      hiding : outermost hiding (hides w) (outward_left l.guards) None ≡ hidden_among w (around_guards l.around);
      graying : outermost (denied_by GrayOutIf) (grays_out w) (outward_left l.guards) None ≡ option_map (denied_by GrayOutIf) (find (grays_out w) (around_guards l.around));
    }
