use Rattle.std.proofs.Common.{map}
use Rattle.hii_packages.specs.Packages.{packages_of}
use Rattle.check_audit.specs.code.Lacking.{lack_seen}
use Rattle.check_audit.proofs.LackLemmas.{Gathers}
use Rattle.check_audit.proofs.lacks.Lacks.read.Given as goal

-- of the string packages so far this is the first, and these lack texts of it
abbrev pub invariant-loop-source : goal.invariant-loop-source
invariant-loop-source l = Gathers (packages_of l.list) l.source-iterator l.first (map lack_seen l.all.items)
