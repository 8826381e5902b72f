use Rattle.std.proofs.Common.{subst}
use Rattle.std.specs.Prelude.{IfSome, Option}
use Rattle.hii_values.specs.declared.input.Input.{Input}
use Rattle.hii_questions.specs.Fields.{Field}
use Rattle.hii_questions.specs.code.Offers.{IsGiven}
use Rattle.hii_questions.specs.code.Views.{question_view}
use Rattle.check_audit.proofs.given_defaults.refusal_of.Goals as goal

pub check_value-requires : goal.check_value-requires
check_value-requires c =
    subst (λ (o : Option Input). IfSome o (λ given. (field : Option Field) → IsGiven field given)) c.in-Some.is c.requires (question_view c.args.question).field
