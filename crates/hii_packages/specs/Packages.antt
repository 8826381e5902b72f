-- The packages of a list, by the chapter Packages (UEFI 2.8, 33.3.1 Package Lists and Package Headers).
use Rattle.std.specs.Prelude.{ℕ, List, length, take, drop}
use Rattle.browser_rules.specs.Packages.{Package, list_length, packages_from}

-- the packages of a list in order, without the end package
abbrev pub packages_of : List ℕ → List Package
packages_of list = packages_from (length list) 20 (drop 20 (take (list_length list) list))
