use Rattle.rules_laws.proofs.PageLemmas.{page_same}
use Rattle.rules_laws.proofs.pages.the_page_of_a_form_is_that_of_the_chapters.Goals as goal

pub returns : goal.returns
returns c = page_same
