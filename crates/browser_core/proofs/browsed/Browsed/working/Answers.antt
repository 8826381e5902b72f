use Rattle.browser_core.proofs.BrowsedLemmas.{working_by_rules, working_image_by_rules}
use Rattle.browser_core.proofs.browsed.Browsed.working.Goals as goal

pub returns-clause-held : goal.returns-clause-held
returns-clause-held c = working_by_rules c.self.inside.browser c.args.self.now c.working.result.now c.self.view_is c.working.ensures

pub returns-clause-image : goal.returns-clause-image
returns-clause-image c = working_image_by_rules c.self.inside.browser c.args.self.now c.working.result.now c.self.invariant c.self.view_is c.working.ensures
