use Rattle.std.proofs.Common.{◌≡◌, ◌++◌, drop, map}
use Rattle.check_audit.specs.Lacks.{language_warnings, numbered_lacks}
use Rattle.check_audit.specs.code.Lacking.{lack_seen}
use Rattle.check_audit.proofs.lacks.Lacks.add.Given as goal

-- with those that are left all are added, numbered by how many stand before them
abbrev pub invariant-loop : goal.invariant-loop
invariant-loop l = record {
  number : l.number ≡ l.index;
  added : l.warnings.items ++ numbered_lacks l.number (map lack_seen (drop l.index l.items)) ≡ l.fn.warnings.items ++ language_warnings l.self;
}
