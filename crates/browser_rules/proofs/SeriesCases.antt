-- Series of worked cases: the list of a case and its forms package, cut behind each of their bytes, and configuration texts of
-- which one thing is wrong.
use Rattle.std.proofs.Common.{refl}
use Rattle.std.specs.Prelude.{◌≡◌, ℕ, ◌+◌, ◌-◌, max, nat_lt, if◌then◌else◌, fold, List, [], ◌∷◌, ◌++◌, map, filter, take, drop, replicate, codes, Ok, Err}
use Rattle.std.specs.List.{range_with_len}
use Rattle.byteorder.specs.Endian.{little_bytes}
use Rattle.browser_rules.specs.Configuration.{Header, request_in, response_in}
use Rattle.browser_rules.specs.Faults.{Fault, fault_at, list_faults, open_faults}
use Rattle.browser_rules.specs.Words.{is_among, BadElement, BadNumber, ListLength, ListShort, NoEnd, NotFormSet, OpLength, PackageLength, ScopeOpen}
use Rattle.browser_rules.proofs.CaseWords.{hex, forms_list}
use Rattle.browser_rules.proofs.cases.Computing.{computing}
use Rattle.browser_rules.proofs.cases.Packages.{box_is_set_and_submitted}

-- what is said of each number from one on, so many of them
abbrev of_each : {X : Type 0} → ℕ → ℕ → (ℕ → X) → List X
of_each from count says = map says (range_with_len from count)

-- ---- a list of 99 bytes, cut to k of them: fewer than a header has; fewer than it says

abbrev list : List ℕ
list = box_is_set_and_submitted.list

lists_that_are_short : of_each 0 20 (λ k. list_faults (take k list)) ≡ replicate 20 (fault_at ListShort 0)
unfolding computing
lists_that_are_short = refl

lists_that_say_more : of_each 20 79 (λ k. list_faults (take k list)) ≡ replicate 79 (fault_at ListLength 16)
unfolding computing
lists_that_say_more = refl

-- Cut, with its length mended: no package follows the header, then the forms package is cut, then the end package.
abbrev mended : ℕ → List ℕ
mended k = take 16 list ++ little_bytes 4 k ++ drop 20 (take k list)

lists_whose_packages_are_cut : of_each 20 79 (λ k. list_faults (mended k))
    ≡ fault_at NoEnd 0x14 ∷ replicate 74 (fault_at PackageLength 0x14)
    ++ fault_at NoEnd 0x5f ∷ replicate 3 (fault_at PackageLength 0x5f)
unfolding computing
lists_whose_packages_are_cut = refl

-- ---- its forms package of 75 bytes, cut to m of them, with its lengths mended: no form set; where whole opcodes end, a scope
-- is open; else the opcode is cut

abbrev cut_package : ℕ → List Fault
cut_package m = open_faults (forms_list (take (m - 4) (drop 24 list))) 1 box_is_set_and_submitted.image

package_without_opcodes : cut_package 4 ≡ fault_at NotFormSet 4
unfolding computing
package_without_opcodes = refl

-- the places behind its opcodes, but for the last
abbrev ends : List ℕ
ends = 27 ∷ 51 ∷ 57 ∷ 71 ∷ 73 ∷ []

-- the greatest of them below a place, or the first opcode's
abbrev last_below : ℕ → ℕ
last_below m = fold max 4 (filter (λ end. nat_lt end m) ends)

packages_that_are_cut : of_each 5 70 cut_package
    ≡ of_each 5 70 (λ m. if is_among m ends then fault_at ScopeOpen m else fault_at OpLength (last_below m))
unfolding computing
packages_that_are_cut = refl

-- ---- configuration texts

abbrev behind_header : List ℕ → List ℕ
behind_header parts = codes "GUID=33333333333333333333333333333333&NAME=0056&PATH=" ++ parts

abbrev header : Header
header = record { guid = replicate 16 0x33; name = 0x56 ∷ []; path = [] }

width_of_zero : response_in (behind_header (codes "&OFFSET=0&WIDTH=0&VALUE=1")) ≡ Err BadNumber
unfolding computing
width_of_zero = refl

width_without_offset : response_in (behind_header (codes "&WIDTH=1")) ≡ Err BadElement
unfolding computing
width_without_offset = refl

number_of_nine_digits : response_in (behind_header (codes "&OFFSET=000000001&WIDTH=1&VALUE=1")) ≡ Err BadNumber
unfolding computing
number_of_nine_digits = refl

block_without_value : response_in (behind_header (codes "&OFFSET=0&WIDTH=1")) ≡ Err BadElement
unfolding computing
block_without_value = refl

block_of_a_request : request_in (behind_header (codes "&OFFSET=0&WIDTH=1"))
    ≡ Ok (header, record { offset = 0; width = 1; digits = [] } ∷ [])
unfolding computing
block_of_a_request = refl
