use Rattle.rules_laws.proofs.NodeLemmas.{statements_same, options_same, defaults_same, inconsistents_same, no_submits_same, warnings_same}
use Rattle.rules_laws.proofs.nodes.in_a_node_stands_what_the_chapters_say.Goals as goal

pub returns-clause-statements : goal.returns-clause-statements
returns-clause-statements c = statements_same

pub returns-clause-options : goal.returns-clause-options
returns-clause-options c = options_same

pub returns-clause-defaults : goal.returns-clause-defaults
returns-clause-defaults c = defaults_same

pub returns-clause-inconsistents : goal.returns-clause-inconsistents
returns-clause-inconsistents c = inconsistents_same

pub returns-clause-no_submits : goal.returns-clause-no_submits
returns-clause-no_submits c = no_submits_same

pub returns-clause-warnings : goal.returns-clause-warnings
returns-clause-warnings c = warnings_same
