-- What the code makes of an input.
use Rattle.std.specs.Prelude.{◌≡◌, ℕ, ◌≤◌, ◌==◌, ◌||◌, ◌&&◌, not, Bool, true, false, if◌then◌else◌, pos, length, Option, Some, None, Result, Ok, Err, List, [], ◌∷◌, ◌++◌, chars}
use Rattle.std.specs.List.{list_any}
use Rattle.hii_values.specs.FieldTypes.{FieldType, checkbox, numeric, one_of, text, ordered_list}
use Rattle.hii_values.specs.Inputs.{Offer, whole, raw, utf8, units, listed, elements, bits_of, fitting_bits, is_offered, offered}
use Rattle.hii_values.specs.Items.{items_in, filled}
use Rattle.hii_values.specs.code.Contents.{content_bytes}
use Rattle.hii_values.specs.code.ItemsLeft.{items_left}
use Rattle.hii_values.specs.declared.content.Content.{Content}
use Rattle.hii_values.specs.declared.denial.DenialKind.{DenialKind}
use Rattle.hii_values.specs.declared.denial.DenialKind.TheVariants.{NoOption, Repeat}

abbrev pub one_item : Option ℕ → List ℕ
one_item None = []
one_item (Some n) = n ∷ []

-- the items that a field is to hold of an offer that it takes
abbrev pub offered_items : FieldType → Offer → List ℕ
offered_items checkbox (whole (pos n)) = n ∷ []
offered_items checkbox (raw bits) = (if bits == 0 then 0 else 1) ∷ []
offered_items (numeric signed width minimum maximum) (whole n) = one_item (bits_of signed width n)
offered_items (numeric signed width minimum maximum) (raw bits) = one_item (fitting_bits width bits)
offered_items (one_of width values) (whole n) = one_item (offered values n)
offered_items (one_of width values) (raw bits) = one_item (offered values (pos bits))
offered_items (text minimum maximum) (utf8 bytes) = chars bytes
offered_items (text minimum maximum) (units bytes) = items_in 2 bytes
offered_items (ordered_list width most unique some values) (listed ns) = ns
offered_items (ordered_list width most unique some values) (elements bytes) = items_in width bytes
offered_items t offer = []

-- whether the items of a field are values of options
abbrev pub names_options : FieldType → Bool
names_options checkbox = false
names_options (numeric signed width minimum maximum) = false
names_options (one_of width values) = true
names_options (text minimum maximum) = false
names_options (ordered_list width most unique some values) = true

-- the content of a field of some bytes, where these are the new bytes and the items, or why there are none
abbrev pub Gives : ℕ → Result (List ℕ) DenialKind → List ℕ → Result Content DenialKind → Type 0
Gives size wanted items (Ok content) =
    (wanted ≡ Ok (filled size (content_bytes content))) × (length (content_bytes content) ≤ size)
    × (items_left content.items ≡ items)
Gives size wanted items (Err kind) = wanted ≡ Err kind

-- why one of some elements may not be that stand behind others, if one may not
abbrev pub denial_behind : List ℕ → Bool → List ℕ → List ℕ → Option DenialKind
denial_behind values unique before [] = None
denial_behind values unique before (n ∷ ns) =
    if n == 0 || not (is_offered values n) then Some NoOption
    else if unique && list_any (λ earlier. earlier == n) before then Some Repeat
    else denial_behind values unique (before ++ n ∷ []) ns

-- why a list is refused, if it is
abbrev pub Tells : Option DenialKind → Result (Unit {0}) DenialKind → Type 0
Tells denial (Ok done) = denial ≡ None
Tells denial (Err kind) = denial ≡ Some kind
