use Rattle.std.proofs.Common.{refl}
use Rattle.json_laws.proofs.ObjectLemmas.{behind_comma, inner_told}
use Rattle.json_laws.proofs.members.an_inner_object_tells_its_members.Goals as goal

pub returns-clause-some : goal.returns-clause-some
returns-clause-some c = inner_told

pub returns-clause-none : goal.returns-clause-none
returns-clause-none c = refl

pub returns-clause-behind : goal.returns-clause-behind
returns-clause-behind c = behind_comma
