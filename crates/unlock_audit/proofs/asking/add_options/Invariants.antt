use Rattle.std.proofs.Common.{◌≡◌, ◌++◌, length, map}
use Rattle.std.specs.List.{flat_map}
use Rattle.ifr_nodes.specs.Nodes.{options}
use Rattle.ifr_nodes.specs.code.Checked.{AreNodesOf}
use Rattle.ifr_scopes.specs.code.Lists.{guard_node}
use Rattle.ifr_scopes.specs.code.OptionsLeft.{options_of_left}
use Rattle.hii_questions.specs.code.Views.{question_node}
use Rattle.guard_policy.specs.code.Views.{bytes_of}
use Rattle.question_audit.specs.OptionFacts.{own_guards}
use Rattle.unlock_audit.proofs.asking.add_options.Given as goal

-- those of the options that are left are left to be added
abbrev pub invariant-loop-option : goal.invariant-loop-option
invariant-loop-option l =
    let n = question_node l.question in
    record {
      added : map guard_node l.conditions.items ++ flat_map (own_guards n.place) (options_of_left l.options) ≡ map guard_node l.fn.conditions.items ++ flat_map (own_guards n.place) (options n);
      nodes : AreNodesOf (bytes_of l.policy) (options_of_left l.options);
    }

abbrev pub decreases-loop-option : goal.decreases-loop-option
decreases-loop-option l = length (options_of_left l.options)
