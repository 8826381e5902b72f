-- Lists and bytes whose packages have no fault.
use Rattle.std.specs.Prelude.{◌≡◌, ℕ, ◌+◌, ◌<◌, ◌^◌, List, [], length}
use Rattle.browser_rules.specs.Faults.{faults_of_packages, list_faults}
use Rattle.browser_rules.specs.Packages.{list_length}

-- The list has no fault, and tells this length.
pub record IsSound (list : List ℕ) (size : ℕ) : Type 0 where
  pub sound : list_faults list ≡ []
  pub told : size ≡ list_length list
  pub small : length list < 2 ^ 64

-- The bytes, of which the first has this place in a list, are packages up to the end package with which they end.
pub record AreWhole (place : ℕ) (bytes : List ℕ) : Type 0 where
  pub sound : faults_of_packages (length bytes) place bytes ≡ []
  pub small : place + length bytes < 2 ^ 64
