-- Which bytes spell packages (UEFI 2.8, 33.3.1 Package Lists and Package Headers): a GUID of 16 bytes, the length of the list
-- in four, the packages, the end package.
use Rattle.std.specs.Prelude.{◌≡◌, ◌≢◌, ℕ, ◌+◌, ◌≤◌, List, [], ◌∷◌, ◌++◌, length, drop, slice_index}
use Rattle.std.specs.List.{AllByRecursion, concat}
use Rattle.browser_rules.specs.Packages.{Package, END_PACKAGE}
use Rattle.browser_rules.specs.Words.{number_in}

-- A package that is not the end package: its length in three bytes, its Type, its body (33.3.1).
pub record IsPackage (bytes : List ℕ) : Type 0 where
  pub header : 4 ≤ length bytes
  pub sized : number_in bytes 0 3 ≡ length bytes
  pub kind : slice_index bytes 3 ≢ END_PACKAGE

-- The end package (33.3.1): a length of 4 and the Type END.
abbrev pub end_package : List ℕ
end_package = 4 ∷ 0 ∷ 0 ∷ END_PACKAGE ∷ []

-- The bytes are a header of 20, these packages, the end package, and any rest; the list's length is told without the
-- rest (33.3.1; that the list ends with its end package and a rest is ignored is an own rule).
pub record SpellsPackages (list : List ℕ) (packages : List (List ℕ)) : Type 0 where
  pub each : AllByRecursion IsPackage packages
  pub rest : List ℕ
  pub whole : drop 20 list ≡ concat packages ++ (end_package ++ rest)
  pub list_length : number_in list 16 4 ≡ 24 + length (concat packages)

-- the packages as they follow each other from a place on
abbrev pub placed : ℕ → List (List ℕ) → List Package
placed place [] = []
placed place (p ∷ ps) =
    record { place = place; kind = slice_index p 3; bytes = p } ∷ placed (place + length p) ps
