use Rattle.rules_laws.proofs.PageLemmas.{rows_same}
use Rattle.rules_laws.proofs.pages.a_form_has_the_rows_of_the_chapters.Goals as goal

pub returns : goal.returns
returns c = rows_same
