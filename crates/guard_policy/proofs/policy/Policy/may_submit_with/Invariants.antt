use Rattle.std.proofs.Common.{◌≡◌}
use Rattle.std.specs.Prelude.{filter}
use Rattle.std.specs.List.{find}
use Rattle.ifr_nodes.specs.Nodes.{nodes_of, is_no_submit}
use Rattle.ifr_scopes.specs.code.NoSubmitsLeft.{no_submits_left}
use Rattle.guard_policy.specs.Policy.{denies_submission}
use Rattle.guard_policy.specs.code.Views.{world_by}
use Rattle.guard_policy.proofs.policy.Policy.may_submit_with.Given as goal

-- the conditions that were met deny nothing
abbrev pub invariant-loop-nosubmit : goal.invariant-loop-nosubmit
invariant-loop-nosubmit g l =
    let which = denies_submission (world_by l.self (g.V.Verdicts.met l.verdicts)) in
    record {
      can : (goal.iterator-loop-nosubmit g).can_next l.conditions;
      ends : (goal.iterator-loop-nosubmit g).is_finite l.conditions;
      same : find which (no_submits_left l.conditions) ≡ find which (filter is_no_submit (nodes_of l.self.forms.now));
    }
