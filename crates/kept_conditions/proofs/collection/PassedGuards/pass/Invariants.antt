use Rattle.std.proofs.Common.{length}
use Rattle.ifr_scopes.specs.code.Lists.{all_guards_left}
use Rattle.kept_conditions.proofs.collection.PassedGuards.pass.Given as goal

abbrev pub decreases-loop-guard : goal.decreases-loop-guard
decreases-loop-guard l = length (all_guards_left l.self.left)
