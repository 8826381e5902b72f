use Rattle.std.proofs.Common.{◌≡◌, ◌++◌}
use Rattle.ifr_nodes.specs.Nodes.{options}
use Rattle.ifr_scopes.specs.code.Parts.{options_left}
use Rattle.hii_questions.specs.code.Views.{question_node}
use Rattle.package_faults.specs.code.Parts.{option_faults}
use Rattle.package_faults.proofs.questions.add_of_options.Given as goal

-- what is told and the faults of the options that are left are those of all
abbrev pub invariant-loop-option : goal.invariant-loop-option
invariant-loop-option l = record {
  can : goal.iterator-loop-option.can_next l.option-iterator;
  ends : goal.iterator-loop-option.is_finite l.option-iterator;
  so_far : l.faults.items ++ option_faults (question_node l.question) (options_left l.option-iterator) ≡ l.fn.faults.items ++ option_faults (question_node l.question) (options (question_node l.question));
}
