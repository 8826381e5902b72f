use Rattle.std.proofs.Common.{◌≡◌, ℕ, take}
use Rattle.std.specs.Prelude.{◌==◌, ◌&&◌, ◌||◌}
use Rattle.std.specs.List.{list_any}
use Rattle.ifr_nodes.specs.Nodes.{options}
use Rattle.ifr_nodes.specs.code.Checked.{AreNodesOf}
use Rattle.ifr_scopes.specs.code.OptionsLeft.{options_of_left}
use Rattle.hii_values.specs.code.ItemsLeft.{items_left}
use Rattle.hii_values.specs.code.MetValues.{is_met, is_sought}
use Rattle.hii_questions.specs.code.Views.{question_node}
use Rattle.guard_policy.specs.code.Effects.{AreEffects}
use Rattle.guard_policy.specs.code.OpenValues.{opens}
use Rattle.guard_policy.specs.code.Views.{world_by}
use Rattle.guard_policy.proofs.policy.Policy.open_values_with.Given as goal

-- a value is met, or an option that is left opens it, where an option does
abbrev pub invariant-loop-option : goal.invariant-loop-option
invariant-loop-option g l =
    let w = world_by l.self (g.V.Verdicts.met l.verdicts) in
    record {
      can : (goal.iterator-loop-option g).can_next l.options;
      ends : (goal.iterator-loop-option g).is_finite l.options;
      last : AreEffects w l.last;
      nodes : AreNodesOf l.self.forms.now (options_of_left l.options);
      sought : (v : ℕ) → is_sought l.met v ≡ list_any (λ item. item == v) (take 255 (items_left l.values));
      met : (v : ℕ) → (is_met l.met v || (is_sought l.met v && list_any (opens w v) (options_of_left l.options)))
          ≡ (is_sought l.met v && list_any (opens w v) (options (question_node l.question)));
    }
