use Rattle.hii_commands.proofs.ReadingLemmas.{means_found, refused_found}
use Rattle.hii_commands.proofs.laws.asked_commands_are_found.Goals as goal

pub returns-clause-good : goal.returns-clause-good
returns-clause-good c = means_found

pub returns-clause-bad : goal.returns-clause-bad
returns-clause-bad c = refused_found
