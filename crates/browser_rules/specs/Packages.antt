-- A list of packages (UEFI 2.8, 33.3.1 Package Lists and Package Headers; that a list ends with its end package and
-- that what is behind its length is ignored are own rules).
use Rattle.std.specs.Prelude.{ℕ, zero, suc, ◌+◌, Bool, ◌==◌, ◌&&◌, ◌||◌, nat_lt, not, if◌then◌else◌, Option, None}
use Rattle.std.specs.Prelude.{option_map, unwrap_or, List, [], ◌∷◌, length, take, drop, slice_index, slice_get, filter}
use Rattle.browser_rules.specs.Words.{number_in}

-- the Types of packages
abbrev pub FORMS : ℕ
FORMS = 0x02

abbrev pub STRINGS : ℕ
STRINGS = 0x04

abbrev pub DEVICE_PATH : ℕ
DEVICE_PATH = 0x08

abbrev pub END_PACKAGE : ℕ
END_PACKAGE = 0xdf

-- the header of a package: its length in three bytes, its Type in one
abbrev pub package_length : List ℕ → ℕ
package_length bytes = number_in bytes 0 3

abbrev pub package_type : List ℕ → ℕ
package_type bytes = slice_index bytes 3

-- No whole package stands at the front: its header is cut, or its length too small, too large or no end package's.
abbrev pub is_bad : List ℕ → Bool
is_bad bytes =
    nat_lt (length bytes) 4 || nat_lt (package_length bytes) 4 || nat_lt (length bytes) (package_length bytes)
    || package_type bytes == END_PACKAGE && not (package_length bytes == 4)

pub record Package : Type 0 where
  pub place : ℕ
  pub kind : ℕ
  pub bytes : List ℕ

-- the packages at the front of bytes at a place, n at most, up to the end package
unfoldable pub packages_from : ℕ → ℕ → List ℕ → List Package
packages_from zero at bytes = []
packages_from (suc n) at bytes =
    if is_bad bytes || package_type bytes == END_PACKAGE then []
    else record { place = at; kind = package_type bytes; bytes = take (package_length bytes) bytes }
    ∷ packages_from n (at + package_length bytes) (drop (package_length bytes) bytes)

-- a list is a GUID of 16 bytes, its length in four, its packages and the end package
abbrev pub list_length : List ℕ → ℕ
list_length list = number_in list 16 4

abbrev pub packages_with : ℕ → List ℕ → List Package
packages_with kind list =
    filter (λ p. p.kind == kind) (packages_from (length list) 20 (drop 20 (take (list_length list) list)))

-- the forms package of a number, from 1 on, and its bytes (own rule)
abbrev pub forms_package : List ℕ → ℕ → Option Package
forms_package list zero = None
forms_package list (suc n) = slice_get (packages_with FORMS list) n

abbrev pub forms_bytes : List ℕ → ℕ → List ℕ
forms_bytes list n = unwrap_or (option_map (λ p. p.bytes) (forms_package list n)) []

-- the body of the first package of the Type DEVICE_PATH, or no bytes (33.3.4)
abbrev pub device_path : List ℕ → List ℕ
device_path list = unwrap_or (option_map (λ p. drop 4 p.bytes) (slice_get (packages_with DEVICE_PATH list) 0)) []
