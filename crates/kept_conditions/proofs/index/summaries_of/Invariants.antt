use Rattle.std.proofs.Common.{◌≡◌, length}
use Rattle.kept_conditions.specs.code.Index.{AreSummaries}
use Rattle.kept_conditions.proofs.index.summaries_of.Given as goal

abbrev pub invariant-loop-at : goal.invariant-loop-at
invariant-loop-at l = record { all : length l.summaries.items ≡ l.at; summaries : AreSummaries l.dependencies l.summaries.items }
