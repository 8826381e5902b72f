use Rattle.object_laws.proofs.WarningLineLemmas.{asks_line, bounds_line, constant_line, default_line, language_line, overlap_line, text_line, unreached_line}
use Rattle.object_laws.proofs.WarningListLemmas.{warnings_are_lines}
use Rattle.object_laws.proofs.lines.warnings_of_check_are_lines.Goals as goal

pub returns-clause-asks : goal.returns-clause-asks
returns-clause-asks c = asks_line

pub returns-clause-bounds : goal.returns-clause-bounds
returns-clause-bounds c = bounds_line

pub returns-clause-constant : goal.returns-clause-constant
returns-clause-constant c = constant_line

pub returns-clause-default : goal.returns-clause-default
returns-clause-default c = default_line

pub returns-clause-language : goal.returns-clause-language
returns-clause-language c = language_line

pub returns-clause-overlap : goal.returns-clause-overlap
returns-clause-overlap c = overlap_line

pub returns-clause-text : goal.returns-clause-text
returns-clause-text c = text_line

pub returns-clause-unreached : goal.returns-clause-unreached
returns-clause-unreached c = unreached_line

pub returns-clause-all : goal.returns-clause-all
returns-clause-all c = λ d spoken lacks ifr ws are. warnings_are_lines d spoken lacks ifr ws are
