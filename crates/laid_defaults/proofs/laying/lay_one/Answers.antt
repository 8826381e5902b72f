use Rattle.hii_questions.specs.code.Views.{question_view}
use Rattle.laid_defaults.proofs.laying.lay_one.Goals as goal

pub check_value-requires : goal.check_value-requires
check_value-requires c = c.in-Some.ensures.given (question_view c.args.question).field
