use Rattle.question_audit.specs.code.MetForms.{forms_met}
use Rattle.question_audit.proofs.MetLemmas.{few_forms}
use Rattle.question_audit.proofs.reach.Met.form.Goals as goal

pub returns-clause-few : goal.returns-clause-few
returns-clause-few c = few_forms c.args.self.now.ids (forms_met c.args.self.now) c.args.self.now.known
