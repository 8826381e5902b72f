use Rattle.std.proofs.Common.{◌≡◌, length}
use Rattle.ifr_scopes.specs.code.StatementsLeft.{statements_of_left}
use Rattle.form_page.specs.code.ListedViews.{listed_left}
use Rattle.form_page.proofs.listed.Listed.step.Given as goal

-- the statements that were passed are hidden
abbrev pub invariant-loop-statement : goal.invariant-loop-statement
invariant-loop-statement g l = (l.page ≡ l.self.page) × (listed_left l.self ≡ listed_left l.fn.self)

abbrev pub decreases-loop-statement : goal.decreases-loop-statement
decreases-loop-statement g l = length (statements_of_left l.self.statements)
