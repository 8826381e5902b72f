use Rattle.std.proofs.Common.{sym}
use Rattle.ifr_scopes.specs.code.Lists.{statement_node}
use Rattle.guard_policy.proofs.IndexedLemmas.{of_statement}
use Rattle.guard_policy.proofs.policy.Policy.listed.Goals as goal

pub returns : goal.returns
returns c =
    let n = statement_node c.args.statement in
    rw (c.over.ensures.policy, c.over.ensures.stores) at (c.seen_at.ensures n c.requires (of_statement n c.args.statement.statement) (sym c.place.ensures))
