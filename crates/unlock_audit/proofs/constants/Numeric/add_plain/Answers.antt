use Rattle.std.proofs.Common.{sym, ap, ◌∙◌}
use Rattle.hii_questions.specs.code.Views.{question_view}
use Rattle.unlock_audit.specs.code.Offered.{offered_near}
use Rattle.unlock_audit.proofs.AskingLemmas.{on_ok}
use Rattle.unlock_audit.proofs.OfferedLemmas.{of_one, of_ones, of_zero, plain_other}
use Rattle.unlock_audit.proofs.constants.Numeric.add_plain.Goals as goal

pub returns-in-Zero : goal.returns-in-Zero
returns-in-Zero c = on_ok c.add_constant.result (λ h. h ∙ ap (offered_near (question_view c.args.self.question) c.args.values.now.keys) (sym (of_zero c.args.constant c.in-Zero.is))) c.add_constant.ensures

pub returns-in-One : goal.returns-in-One
returns-in-One c = on_ok c.add_constant-in-One.result (λ h. h ∙ ap (offered_near (question_view c.args.self.question) c.args.values.now.keys) (sym (of_one c.args.constant c.in-One.is))) c.add_constant-in-One.ensures

pub returns-in-Ones : goal.returns-in-Ones
returns-in-Ones c = on_ok c.add_constant-in-Ones.result (λ h. h ∙ ap (offered_near (question_view c.args.self.question) c.args.values.now.keys) (sym (of_ones c.args.constant c.in-Ones.is))) c.add_constant-in-Ones.ensures

pub returns-in_default : goal.returns-in_default
returns-in_default c = ap (offered_near (question_view c.args.self.question) c.args.values.now.keys) (sym (plain_other c.args.constant c.in_default.not-Zero c.in_default.not-One c.in_default.not-Ones))
