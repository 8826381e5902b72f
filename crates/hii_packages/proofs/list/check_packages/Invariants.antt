use Rattle.std.proofs.Common.{◌≡◌, ◌+◌, length}
use Rattle.browser_rules.specs.Faults.{faults_of_packages}
use Rattle.hii_packages.proofs.list.check_packages.Given as goal

-- the faults are those of the packages that are left
abbrev pub invariant-loop-rest : goal.invariant-loop-rest
invariant-loop-rest l = record {
  same : faults_of_packages (length l.packages) l.place l.packages ≡ faults_of_packages (length l.rest) l.at l.rest;
  together : l.at + length l.rest ≡ l.place + length l.packages;
}

abbrev pub decreases-loop-rest : goal.decreases-loop-rest
decreases-loop-rest l = length l.rest
