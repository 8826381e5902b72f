use Rattle.std.proofs.Common.{sym}
use Rattle.ifr_scopes.specs.code.Lists.{statement_node}
use Rattle.guard_policy.specs.declared.support.Decision.TheVariants.{Listed}
use Rattle.guard_policy.proofs.IndexedLemmas.{of_statement}
use Rattle.guard_policy.proofs.KeptLemmas.{decided}
use Rattle.guard_policy.proofs.policy.Policy.listed_beside_by.Goals as goal

pub returns-clause-listed : goal.returns-clause-listed
returns-clause-listed g c =
    let n = statement_node c.args.statement in
    decided c.args.self.now (g.C.Conditions.holding c.args.conditions.now) (Listed c.args.statement) c.seen_beside.result
    (c.seen_beside.ensures.seen n c.requires.node (of_statement n c.args.statement.statement) (sym c.place.ensures))
