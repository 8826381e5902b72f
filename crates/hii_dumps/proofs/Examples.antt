-- Worked dumps.
use Rattle.std.proofs.Common.{◌≡◌, ℕ, ◌+◌, List, [], ◌∷◌, ◌++◌, drop, replicate, refl, lit≤}
use Rattle.hii_bytes.specs.Numbers.{number_in}
use Rattle.hii_dumps.specs.Dumps.{SpellsDump, placed}
use Rattle.hii_dumps.specs.code.Lists.{lists_in, lists_of}

-- a list of so many bytes behind its header
list : ℕ → List ℕ
list n = replicate 16 7 ++ (20 + n) ∷ 0 ∷ 0 ∷ 0 ∷ replicate n 1

-- a header alone, a list of two bytes, and a header that states one byte too many
dump : List ℕ
dump = list 0 ++ list 2 ++ (replicate 16 7 ++ 21 ∷ 0 ∷ 0 ∷ 0 ∷ [])

two_lists : SpellsDump dump (list 0 ∷ list 2 ∷ []) (drop 42 dump)
unfolding number_in dump list
two_lists = record { each = (record { header = lit≤ tt; sized = refl }, (record { header = lit≤ tt; sized = refl }, tt)); whole = refl; ends = refl }

cut_into_two : placed 0 (lists_of dump) ≡ record { place = 0; bytes = list 0 } ∷ record { place = 20; bytes = list 2 } ∷ []
unfolding number_in lists_in dump list
cut_into_two = refl
