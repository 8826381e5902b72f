use Rattle.ifr_nodes.specs.code.Views.{node_of}
use Rattle.ifr_nodes.proofs.ReferenceLemmas.{kept_on}
use Rattle.ifr_nodes.proofs.references.Met.meet_other.Goals as goal

pub returns-clause-met : goal.returns-clause-met
returns-clause-met c = λ _ bytes before known. record {
  all = known.all;
  forms = (c.repeats_form.ensures before known.forms).1 c.if-repeats_form.false;
  questions = (c.repeats_question.ensures before known.questions).1 c.if-repeats_question.false;
  rules = kept_on before (node_of c.args.node) c.args.self.now.rules c.requires.other known.rules;
  form = known.form;
}
