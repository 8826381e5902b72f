use Rattle.std.proofs.Common.{inl}
use Rattle.report_audit.proofs.CountLemmas.{few_forms}
use Rattle.report_audit.proofs.heads.forms_count.Goals as goal

pub count-requires-clause-fits : goal.count-requires-clause-fits
count-requires-clause-fits c = inl (few_forms _ _ c.requires c.forms-views.ensures)
