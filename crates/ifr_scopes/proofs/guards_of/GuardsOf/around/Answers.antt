use Rattle.ifr_scopes.proofs.AroundLemmas.{around}
use Rattle.ifr_scopes.proofs.guards_of.GuardsOf.around.Goals as goal

pub invariant_of-result : goal.invariant_of-result
invariant_of-result c = record {
  checked = c.requires.checked;
  guards = (around c.args.ifr.now c.args.place _ c.requires.checked.spelled c.requires.there c.guards_around-kept.ensures).guards;
}

pub returns-clause-guards : goal.returns-clause-guards
returns-clause-guards c = (around c.args.ifr.now c.args.place _ c.requires.checked.spelled c.requires.there c.guards_around-kept.ensures).again
