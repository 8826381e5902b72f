use Rattle.std.proofs.Common.{◌≡◌}
use Rattle.std.specs.Prelude.{filter, ◌==◌}
use Rattle.ifr_opcodes.specs.Fields.{option_value}
use Rattle.ifr_nodes.specs.code.Checked.{AreNodesOf}
use Rattle.ifr_scopes.specs.code.OptionsLeft.{options_of_left}
use Rattle.hii_questions.specs.code.Views.{question_node}
use Rattle.guard_policy.specs.Policy.{closed}
use Rattle.guard_policy.specs.code.Effects.{AreEffects}
use Rattle.guard_policy.specs.code.Views.{world_by}
use Rattle.guard_policy.proofs.ClosedLemmas.{standing}
use Rattle.guard_policy.proofs.policy.Policy.option_open_with.Given as goal

-- the options of the value that were met are all fixed, the first of them by what is held
abbrev pub invariant-loop-option : goal.invariant-loop-option
invariant-loop-option g l =
    let w = world_by l.self (g.V.Verdicts.met l.verdicts) in
    record {
      can : (goal.iterator-loop-option g).can_next l.options;
      ends : (goal.iterator-loop-option g).is_finite l.options;
      last : AreEffects w l.last;
      nodes : AreNodesOf l.self.forms.now (options_of_left l.options);
      same : standing w l.first (filter (λ o. option_value o.op == l.value) (options_of_left l.options)) ≡ closed w (question_node l.question) l.value;
    }
