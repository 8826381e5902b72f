use Rattle.std.proofs.Common.{◌≡◌, ◌-◌}
use Rattle.std.specs.List.{slice_get}
use Rattle.browser_rules.specs.Packages.{FORMS, packages_with}
use Rattle.hii_packages.proofs.ListLemmas.{of_type}
use Rattle.hii_packages.proofs.list.PackageList.forms.Given as goal

-- the forms package that is looked for stands in what is left
abbrev pub invariant-loop-found : goal.invariant-loop-found
invariant-loop-found l = slice_get (of_type FORMS l.found-iterator) l.before ≡ slice_get (packages_with FORMS l.self) (l.n - 1)
