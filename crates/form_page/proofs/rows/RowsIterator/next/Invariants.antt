use Rattle.std.proofs.Common.{◌≡◌, length}
use Rattle.ifr_scopes.specs.code.StatementsLeft.{statements_of_left}
use Rattle.form_page.specs.code.ListedViews.{listed_left}
use Rattle.form_page.proofs.rows.RowsIterator.next.Given as goal

-- the statements that were passed are hidden
abbrev pub invariant-loop-statement : goal.invariant-loop-statement
invariant-loop-statement g l =
    record {
      page : l.page ≡ l.fn.self.listed.page;
      same : l.self.listed.page ≡ l.fn.self.listed.page;
      number : l.self.number ≡ l.fn.self.number;
      left : listed_left l.self.listed ≡ listed_left l.fn.self.listed;
    }

abbrev pub decreases-loop-statement : goal.decreases-loop-statement
decreases-loop-statement g l = length (statements_of_left l.self.listed.statements)
