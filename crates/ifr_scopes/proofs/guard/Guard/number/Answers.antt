use Rattle.std.proofs.Common.{sym, subst}
use Rattle.ifr_nodes.specs.Nodes.{nodes_of}
use Rattle.ifr_index.specs.code.Tables.{AreBefore}
use Rattle.ifr_scopes.proofs.GuardLemmas.{is_placed}
use Rattle.ifr_scopes.proofs.guard.Guard.number.Goals as goal

pub returns-clause-counted : goal.returns-clause-counted
returns-clause-counted c =
    let guard = c.args.self in
    subst (AreBefore (nodes_of guard.ifr.now) guard.number) (sym (is_placed guard.ifr.now guard.place guard.stands)) guard.counted
