use Rattle.hii_packages.proofs.SpellLemmas.{spelled_read, spelled_of_type}
use Rattle.hii_packages.proofs.laws.packages_that_are_spelled_are_read.Goals as goal

pub returns-clause-all : goal.returns-clause-all
returns-clause-all c = spelled_read

pub returns-clause-of_type : goal.returns-clause-of_type
returns-clause-of_type c = spelled_of_type
