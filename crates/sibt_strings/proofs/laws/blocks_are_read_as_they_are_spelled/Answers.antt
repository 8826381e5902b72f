use Rattle.sibt_strings.proofs.ReadLemmas.{spelled_read, read_spelled, all_read, all_spelled}
use Rattle.sibt_strings.proofs.laws.blocks_are_read_as_they_are_spelled.Goals as goal

pub returns-clause-read : goal.returns-clause-read
returns-clause-read c = spelled_read

pub returns-clause-spelled : goal.returns-clause-spelled
returns-clause-spelled c = read_spelled

pub returns-clause-all : goal.returns-clause-all
returns-clause-all c = all_read

pub returns-clause-all_spelled : goal.returns-clause-all_spelled
returns-clause-all_spelled c = all_spelled
