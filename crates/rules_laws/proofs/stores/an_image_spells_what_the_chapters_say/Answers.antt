use Rattle.rules_laws.proofs.StoreLemmas.{image_same, spelled_same, spelled_back}
use Rattle.rules_laws.proofs.stores.an_image_spells_what_the_chapters_say.Goals as goal

pub returns-clause-image : goal.returns-clause-image
returns-clause-image c = image_same

pub returns-clause-spelled : goal.returns-clause-spelled
returns-clause-spelled c = spelled_same

pub returns-clause-back : goal.returns-clause-back
returns-clause-back c = spelled_back
