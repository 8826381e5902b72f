use Rattle.hii_packages.proofs.PlaceLemmas.{same_list_faults, same_least_list}
use Rattle.hii_packages.proofs.laws.faults_of_a_list_are_the_same.Goals as goal

pub returns-clause-faults : goal.returns-clause-faults
returns-clause-faults c = same_list_faults

pub returns-clause-least : goal.returns-clause-least
returns-clause-least c = same_least_list
