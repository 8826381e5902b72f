use Rattle.rules_laws.proofs.NodeLemmas.{is_question_same}
use Rattle.rules_laws.proofs.nodes.a_node_is_what_the_chapters_say.Goals as goal

pub returns-clause-question : goal.returns-clause-question
returns-clause-question c = is_question_same
