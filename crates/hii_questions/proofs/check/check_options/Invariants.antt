use Rattle.std.proofs.Common.{◌≡◌}
use Rattle.ifr_nodes.specs.Nodes.{options}
use Rattle.ifr_scopes.specs.code.OptionsLeft.{options_of_left}
use Rattle.hii_questions.specs.code.FaultTells.{first_option_fault}
use Rattle.hii_questions.specs.code.Views.{question_node}
use Rattle.hii_questions.proofs.check.check_options.Given as goal

-- the first fault of the options that are left is that of all
abbrev pub invariant-loop-option : goal.invariant-loop-option
invariant-loop-option l = record {
  can : goal.iterator-loop-option.can_next l.option-iterator;
  ends : goal.iterator-loop-option.is_finite l.option-iterator;
  same : first_option_fault (question_node l.question) (options_of_left l.option-iterator) ≡ first_option_fault (question_node l.question) (options (question_node l.question));
}
