use Rattle.browser_core.proofs.BrowsedLemmas.{committed_by_rules, committed_image_by_rules}
use Rattle.browser_core.proofs.browsed.Browsed.committed.Goals as goal

pub returns-clause-held : goal.returns-clause-held
returns-clause-held c = committed_by_rules c.self.inside.browser c.args.self.now c.committed.result.now c.self.view_is c.committed.ensures

pub returns-clause-image : goal.returns-clause-image
returns-clause-image c = committed_image_by_rules c.self.inside.browser c.args.self.now c.committed.result.now c.self.invariant c.self.view_is c.committed.ensures
