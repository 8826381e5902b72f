-- Bytes that are lists, cut into them.
use Rattle.std.specs.Prelude.{◌≡◌, ℕ, zero, suc, if◌then◌else◌, List, [], ◌∷◌, length, take, drop}
use Rattle.std.specs.List.{AllByRecursion, concat}
use Rattle.hii_dumps.specs.Dumps.{IsList, Entry, stated_length, begins_with_list}
use Rattle.hii_dumps.specs.declared.lists.DumpedList.{DumpedList}

-- the lists at the front of the bytes, at most so many
unfoldable pub lists_in : ℕ → List ℕ → List (List ℕ)
lists_in zero bytes = []
lists_in (suc n) bytes =
    if begins_with_list bytes
    then take (stated_length bytes) bytes ∷ lists_in n (drop (stated_length bytes) bytes)
    else []

abbrev pub lists_of : List ℕ → List (List ℕ)
lists_of bytes = lists_in (length bytes) bytes

-- the bytes are lists, one after another
abbrev pub AreLists : List ℕ → Type 0
AreLists bytes =
    (lists : List (List ℕ)) × AllByRecursion IsList lists × (bytes ≡ concat lists)

-- a list without where its bytes lie in memory
abbrev pub entry_of : DumpedList → Entry
entry_of list = record { place = list.place; bytes = list.bytes.now }
