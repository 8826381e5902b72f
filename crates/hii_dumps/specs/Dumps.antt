-- A dump of package lists, one after the other (UEFI 2.8, 34.8, ExportPackageLists; that a list is taken by its header alone, and
-- that a rest is left, is an own rule).
use Rattle.std.specs.Prelude.{◌≡◌, ℕ, zero, suc, ◌+◌, ◌≤◌, ◌&&◌, Bool, false, nat_le, Option, None, List, [], ◌∷◌, ◌++◌, length, slice_get}
use Rattle.std.specs.List.{AllByRecursion, concat}
use Rattle.hii_bytes.specs.Numbers.{number_in}

-- the length that a list's header states, in four bytes behind its GUID (33.3.1)
abbrev pub stated_length : List ℕ → ℕ
stated_length bytes = number_in bytes 16 4

-- A list is as long as its header states, the header's 20 bytes counted.
pub record IsList (bytes : List ℕ) : Type 0 where
  pub header : 20 ≤ length bytes
  pub sized : stated_length bytes ≡ length bytes

-- whether the bytes begin with a list
abbrev pub begins_with_list : List ℕ → Bool
begins_with_list bytes =
    nat_le 20 (stated_length bytes) && nat_le (stated_length bytes) (length bytes)

-- The dump is these lists, one after the other, and a rest, which begins with none.
pub record SpellsDump (dump : List ℕ) (lists : List (List ℕ)) (rest : List ℕ) : Type 0 where
  pub each : AllByRecursion IsList lists
  pub whole : dump ≡ concat lists ++ rest
  pub ends : begins_with_list rest ≡ false

-- a list with its place in the dump
pub record Entry : Type 0 where
  pub place : ℕ
  pub bytes : List ℕ

-- the lists as they follow each other from a place on
abbrev pub placed : ℕ → List (List ℕ) → List Entry
placed place [] = []
placed place (list ∷ lists) =
    record { place = place; bytes = list } ∷ placed (place + length list) lists

-- the list of a number, counted from 1
abbrev pub nth_list : List (List ℕ) → ℕ → Option Entry
nth_list lists zero = None
nth_list lists (suc n) = slice_get (placed 0 lists) n

-- what a dump is: its lists and its rest
pub record Parts : Type 0 where
  pub lists : List (List ℕ)
  pub rest : List ℕ
