use Rattle.browser_commands.proofs.ChangeLemmas.{fields_lie}
use Rattle.store_audit.proofs.declared.Declared.questions.Goals as goal

pub returns-clause-lie : goal.returns-clause-lie
returns-clause-lie c = rw (← c.self.view_is) (fields_lie c.self.inside.forms c.self.invariant.2)
