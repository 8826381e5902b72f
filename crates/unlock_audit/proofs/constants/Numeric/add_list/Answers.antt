use Rattle.std.proofs.Common.{[], ◌∷◌}
use Rattle.ifr_opcodes.specs.code.Views.{values_left}
use Rattle.hii_questions.specs.code.Views.{question_view}
use Rattle.unlock_audit.proofs.OfferedLemmas.{near_left}
use Rattle.unlock_audit.proofs.constants.Numeric.add_list.Goals as goal

pub loop-constant-preserved : goal.loop-constant-preserved
loop-constant-preserved c =
    near_left (question_view c.args.self.question) c.loop-constant.values.keys c.add_constant.new.values.keys (values_left c.loop-constant.list) (c.in-Some.constant ∷ []) (values_left c.next.new.self) (values_left c.args.list) c.args.values.now.keys
    c.in-Some.ensures.steps (rw c.from.ensures at c.in_ok-add_constant.ensures) c.loop-constant.invariant
