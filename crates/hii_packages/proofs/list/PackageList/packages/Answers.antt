use Rattle.std.proofs.Common.{ap, ◌∙◌}
use Rattle.hii_packages.specs.Packages.{packages_of}
use Rattle.hii_packages.proofs.LeftLemmas.{few_packages}
use Rattle.hii_packages.proofs.ListLemmas.{has_body}
use Rattle.hii_packages.proofs.list.PackageList.packages.Goals as goal

pub from-requires : goal.from-requires
from-requires c = (has_body c.self.inside.list.now c.self.inside.size c.self.invariant).whole

pub returns-clause-all : goal.returns-clause-all
returns-clause-all c = c.from.ensures ∙ (has_body c.self.inside.list.now c.self.inside.size c.self.invariant).packages ∙ ap packages_of c.self.view_is

pub returns-clause-few : goal.returns-clause-few
returns-clause-few c = few_packages 20 _ _ (has_body c.self.inside.list.now c.self.inside.size c.self.invariant).whole c.from.ensures
