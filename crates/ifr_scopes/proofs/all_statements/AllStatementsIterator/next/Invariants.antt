use Rattle.std.proofs.Common.{◌≡◌, length}
use Rattle.ifr_scopes.specs.code.Lists.{all_statements_left}
use Rattle.ifr_scopes.proofs.all_statements.AllStatementsIterator.next.Given as goal

-- no statement was passed
abbrev pub invariant-loop-entry : goal.invariant-loop-entry
invariant-loop-entry l = all_statements_left l.self ≡ all_statements_left l.fn.self

abbrev pub decreases-loop-entry : goal.decreases-loop-entry
decreases-loop-entry l = length l.self.entries.now
