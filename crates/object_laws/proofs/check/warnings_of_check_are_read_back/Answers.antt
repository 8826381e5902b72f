use Rattle.object_laws.proofs.WarningLemmas.{asks_back, bounds_back, constant_back, default_back, language_back, overlap_back, text_back, unreached_back}
use Rattle.object_laws.proofs.check.warnings_of_check_are_read_back.Goals as goal

pub returns-clause-asks : goal.returns-clause-asks
returns-clause-asks c = asks_back

pub returns-clause-bounds : goal.returns-clause-bounds
returns-clause-bounds c = bounds_back

pub returns-clause-constant : goal.returns-clause-constant
returns-clause-constant c = constant_back

pub returns-clause-default : goal.returns-clause-default
returns-clause-default c = default_back

pub returns-clause-language : goal.returns-clause-language
returns-clause-language c = language_back

pub returns-clause-overlap : goal.returns-clause-overlap
returns-clause-overlap c = overlap_back

pub returns-clause-text : goal.returns-clause-text
returns-clause-text c = text_back

pub returns-clause-unreached : goal.returns-clause-unreached
returns-clause-unreached c = unreached_back
