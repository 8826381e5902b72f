use Rattle.std.proofs.Common.{◌≡◌}
use Rattle.browser_rules.specs.Packages.{device_path}
use Rattle.hii_packages.proofs.ListLemmas.{path_in}
use Rattle.hii_packages.proofs.list.PackageList.device_path.Given as goal

-- the device path of what is left is that of the list
abbrev pub invariant-loop-found : goal.invariant-loop-found
invariant-loop-found l = path_in l.found-iterator ≡ device_path l.self
