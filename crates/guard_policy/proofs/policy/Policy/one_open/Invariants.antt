use Rattle.std.proofs.Common.{◌≡◌}
use Rattle.ifr_nodes.specs.code.Checked.{AreNodesOf}
use Rattle.hii_questions.specs.code.PlacedLeft.{placed_left}
use Rattle.guard_policy.specs.Policy.{all_fixed}
use Rattle.guard_policy.specs.code.Effects.{AreEffects}
use Rattle.guard_policy.specs.code.Views.{world_by}
use Rattle.guard_policy.proofs.ClosedLemmas.{standing}
use Rattle.guard_policy.proofs.policy.Policy.one_open.Given as goal

-- the options that were met are all fixed, the first of them by what is held
abbrev pub invariant-loop-option : goal.invariant-loop-option
invariant-loop-option g l =
    let w = world_by l.self (g.V.Verdicts.met l.verdicts) in
    record {
      can : (goal.iterator-loop-option g).can_next l.options;
      ends : (goal.iterator-loop-option g).is_finite l.options;
      last : AreEffects w l.last;
      nodes : AreNodesOf l.self.forms.now (placed_left l.options);
      same : standing w l.first (placed_left l.options) ≡ all_fixed w (placed_left l.fn.options);
    }
