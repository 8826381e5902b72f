use Rattle.std.proofs.Common.{sym}
use Rattle.ifr_scopes.proofs.GuardLemmas.{is_placed}
use Rattle.ifr_scopes.proofs.guard.Guard.place.Goals as goal

pub returns : goal.returns
returns c = let guard = c.args.self in sym (is_placed guard.ifr.now guard.place guard.stands)
