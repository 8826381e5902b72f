use Rattle.std.proofs.Common.{◌≡◌}
use Rattle.hii_questions.proofs.tables.options_of.Given as goal

-- the table is one of the package
abbrev pub invariant-loop-number : goal.invariant-loop-number
invariant-loop-number l = record { same : l.table ≡ l.forms }
