use Rattle.std.proofs.Common.{inl}
use Rattle.ifr_nodes.specs.Nodes.{is_form}
use Rattle.check_audit.proofs.CountLemmas.{few}
use Rattle.survey_audit.proofs.counts.forms_count.Goals as goal

pub count-requires-clause-fits : goal.count-requires-clause-fits
count-requires-clause-fits c = inl (few _ is_form _ c.requires.checked c.forms-views.ensures)
