use Rattle.browser_core.proofs.RunLemmas.{runs_known}
use Rattle.browser_core.proofs.session.Session.run_script.Goals as goal

pub returns-clause-whole : goal.returns-clause-whole
returns-clause-whole g c = rw (← c.self.view_is) (runs_known _ _ _ _ _ _ _ c.run_all.ensures.run)
