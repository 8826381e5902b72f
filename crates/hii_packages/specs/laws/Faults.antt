-- The faults of a list of packages, each said by its cause and its place (the formats of UEFI 2.8, 33.3.1; that these are
-- refused, and as what, is an own rule).
use Rattle.std.specs.Prelude.{◌≡◌, ◌≢◌, ◌⊎◌, ℕ, zero, suc, ◌+◌, ◌<◌, ◌≤◌, List, length, slice_index}
use Rattle.browser_rules.specs.Packages.{END_PACKAGE, list_length}
use Rattle.browser_rules.specs.Words.{number_in}
use Rattle.hii_bytes.specs.declared.cause.Cause.{Cause}
use Rattle.hii_bytes.specs.declared.cause.Cause.TheVariants.{ListShort, ListLength, PackageLength, NoEnd, AfterEnd}

-- The list's header stands in the bytes, and the length that it tells does not leave them.
pub record HasHeader (list : List ℕ) : Type 0 where
  pub header : 20 ≤ length list
  pub low : 20 ≤ list_length list
  pub high : list_length list ≤ length list

-- the length that a package's header tells
abbrev pub size_at : List ℕ → ℕ → ℕ
size_at list place = number_in list place 3

-- the Type that a package's header tells
abbrev pub kind_at : List ℕ → ℕ → ℕ
kind_at list place = slice_index list (place + 3)

-- A whole package that is not the end package stands at this place.
pub record IsWholePackage (list : List ℕ) (place : ℕ) : Type 0 where
  pub header : 4 ≤ size_at list place
  pub inside : place + size_at list place ≤ list_length list
  pub kind : kind_at list place ≢ END_PACKAGE

-- the place after the header of the list and this many whole packages
abbrev pub IsAfter : List ℕ → ℕ → ℕ → Type 0
IsAfter list zero place = place ≡ 20
IsAfter list (suc n) place =
    (before : ℕ) × IsAfter list n before × IsWholePackage list before
    × (place ≡ before + size_at list before)

-- a package begins at this place, or nothing follows
abbrev pub Begins : List ℕ → ℕ → Type 0
Begins list place = (n : ℕ) × IsAfter list n place

-- The header is cut, or it tells a length that is too small, too large or wrong for the end package.
abbrev pub IsBadLength : List ℕ → ℕ → Type 0
IsBadLength list place =
    (list_length list < place + 4) ⊎ (size_at list place < 4)
    ⊎ (list_length list < place + size_at list place)
    ⊎ ((kind_at list place ≡ END_PACKAGE) × (size_at list place ≢ 4))

-- Fewer bytes than a header; a length of the list that is too small or too large; behind a right header a package of
-- a bad length, no end package, or bytes after the end package.
abbrev pub IsListFault : List ℕ → Cause → ℕ → Type 0
IsListFault list ListShort place = (place ≡ 0) × (length list < 20)
IsListFault list ListLength place =
    (place ≡ 16) × (20 ≤ length list) × ((list_length list < 20) ⊎ (length list < list_length list))
IsListFault list PackageLength place =
    HasHeader list × Begins list place × (place < list_length list) × IsBadLength list place
IsListFault list NoEnd place = HasHeader list × Begins list place × (place ≡ list_length list)
IsListFault list AfterEnd place =
    HasHeader list × (end : ℕ) × Begins list end × (kind_at list end ≡ END_PACKAGE) × (size_at list end ≡ 4)
    × (place ≡ end + 4) × (place < list_length list)
IsListFault list _ place = ⊥
