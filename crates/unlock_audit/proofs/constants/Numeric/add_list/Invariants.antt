use Rattle.std.proofs.Common.{◌≡◌, length}
use Rattle.ifr_opcodes.specs.code.Views.{values_left}
use Rattle.hii_questions.specs.code.Views.{question_view}
use Rattle.unlock_audit.specs.code.Offered.{offered_near}
use Rattle.unlock_audit.proofs.constants.Numeric.add_list.Given as goal

-- what is near to the constants that are left is left to be added
abbrev pub invariant-loop-constant : goal.invariant-loop-constant
invariant-loop-constant l = offered_near (question_view l.self.question) l.values.keys (values_left l.list) ≡ offered_near (question_view l.self.question) l.fn.values.keys (values_left l.fn.list)

abbrev pub decreases-loop-constant : goal.decreases-loop-constant
decreases-loop-constant l = length (values_left l.list)
