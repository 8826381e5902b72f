-- What the code reads of a text is what the rules say.
use Rattle.std.proofs.Common.{◌≡◌, ◌⊎◌, if◌then◌else◌, ◌==◌, ◌&&◌, ◌||◌, not, ◌/◌, ◌%◌, ℕ, zero, suc, Bool, true, false, List, [], ◌∷◌, length, codes, nat_lt, nat_le, Option, Some, None, Result, Ok, Err, MatchResult, option_map, option_and_then, ok_or, refl, sym, ap, subst, ◌∙◌, arith, inl, inr}
use Rattle.std.specs.Char.{is_digit}
use Rattle.std.specs.List.{list_all}
use Rattle.std.specs.Str.Parse.{digits_value}
use Rattle.std.proofs.Math.Dec.{leb-suc-zero, leb-suc-suc}
use Rattle.std.proofs.lemmas.Bool.{and_parts, cases_Bool, eqb-true, eq-eqb, ne_eqb, lt-ltb}
use Rattle.browser_rules.specs.Configuration.{Header, Block, request_in, response_in}
use Rattle.browser_rules.specs.Words as words
use Rattle.hii_bytes.specs.Digits.{number_below}
use Rattle.hii_bytes.specs.declared.cause.Cause.{Cause}
use Rattle.hii_bytes.specs.declared.cause.Cause.TheVariants.{BadHeader, BadNumber, ValueWidth}
use Rattle.config_text.specs.Reading.{as_told, configuration_in}
use Rattle.config_text.specs.laws.Texts.{is_of_texts}
use Rattle.config_text.specs.code.Parts.{text_parts}
use Rattle.config_text.specs.code.PartReading.{body_in, offset_in, width_in, positive, are_hex, is_grouped, group_numbers, fits_width}
use Rattle.config_text.specs.code.Reading.{Wanted, wants_offset, wants_width, wants_value, Head, PartStep, named_by, head_in, head_areas, guid_behind, name_behind, path_behind, number_step, width_step, part_step, named_areas, areas_before, then_areas, areas_in, reading_of}
use Rattle.config_text.specs.declared.kind.TextKind.{TextKind}
use Rattle.config_text.specs.declared.kind.TextKind.TheVariants.{Ask, Tell}
use Rattle.config_text.proofs.ReadLemmas.{length_groups}
use Rattle.config_text.proofs.StepLemmas.{areas_before_nil}

-- ---- how the rules read, in words of the code where these are the same

abbrev then_read : {X Y : Type 0} → Result X words.Cause → (X → Result Y words.Cause) → Result Y words.Cause
then_read (Err cause) next = Err cause
then_read (Ok x) next = next x

abbrev grouped : ℕ → List ℕ → Option (List ℕ)
grouped size text = if is_grouped size text then Some (group_numbers size text) else None

abbrev header_by : (guid name path : Option (List ℕ)) → Option Header
header_by guid name path =
    option_and_then (λ guid. option_and_then (λ name. option_and_then (λ path.
    if length guid == 16 then Some record { guid = guid; name = name; path = path } else None)
    (option_and_then (grouped 2) path))
    (option_and_then (grouped 4) name))
    (option_and_then (grouped 2) guid)

abbrev number_at_least : ℕ → List ℕ → Result ℕ words.Cause
number_at_least least text =
    then_read (ok_or (words.number_below 65536 16 8 text) words.BadNumber) λ n. if nat_lt n least then Err words.BadNumber else Ok n

abbrev number_behind : ℕ → Option (List ℕ) → Result ℕ words.Cause
number_behind least text = then_read (ok_or text words.BadElement) λ text. number_at_least least text

abbrev value_digits : ℕ → List ℕ → Result (List ℕ) words.Cause
value_digits width digits =
    if length digits == 0 || not (are_hex digits) then Err words.BadNumber
    else if fits_width width digits then Ok digits else Err words.ValueWidth

abbrev digits_behind : ℕ → Option (List ℕ) → Result (List ℕ) words.Cause
digits_behind width text = then_read (ok_or text words.BadElement) λ digits. value_digits width digits

abbrev requested : List (List ℕ) → Result (List Block) words.Cause
requested [] = Ok []
requested (offset ∷ []) = then_read (number_behind 0 (body_in (codes "OFFSET=") offset)) λ offset. Err words.BadElement
requested (offset ∷ width ∷ parts) =
    then_read (number_behind 0 (body_in (codes "OFFSET=") offset)) λ offset.
    then_read (number_behind 1 (body_in (codes "WIDTH=") width)) λ width.
    then_read (requested parts) λ blocks. Ok (record { offset = offset; width = width; digits = [] } ∷ blocks)

abbrev responded : List (List ℕ) → Result (List Block) words.Cause
responded [] = Ok []
responded (offset ∷ []) = then_read (number_behind 0 (body_in (codes "OFFSET=") offset)) λ offset. Err words.BadElement
responded (offset ∷ width ∷ []) =
    then_read (number_behind 0 (body_in (codes "OFFSET=") offset)) λ offset.
    then_read (number_behind 1 (body_in (codes "WIDTH=") width)) λ width. Err words.BadElement
responded (offset ∷ width ∷ value ∷ parts) =
    then_read (number_behind 0 (body_in (codes "OFFSET=") offset)) λ offset.
    then_read (number_behind 1 (body_in (codes "WIDTH=") width)) λ width.
    then_read (digits_behind width (body_in (codes "VALUE=") value)) λ digits.
    then_read (responded parts) λ blocks. Ok (record { offset = offset; width = width; digits = digits } ∷ blocks)

abbrev of_parts : (List (List ℕ) → Result (List Block) words.Cause) → List (List ℕ) → Result (Header × List Block) words.Cause
of_parts blocks_in (guid ∷ name ∷ path ∷ parts) =
    then_read (ok_or (header_by (body_in (codes "GUID=") guid) (body_in (codes "NAME=") name) (body_in (codes "PATH=") path)) words.BadHeader) λ header.
    then_read (blocks_in parts) λ blocks. Ok (header, blocks)
of_parts blocks_in _ = Err words.BadHeader

-- ---- numbers and digits

-- the tests of a number in either order
swapped : (a b c d : Bool) → (a && (b && (c && d))) ≡ (a && c && b && d)
swapped false b c d = refl
swapped true b true d = refl
swapped true true false d = refl
swapped true false false d = refl

same_number : (limit radix most : ℕ) (text : List ℕ) → number_below limit radix most text ≡ words.number_below limit radix most text
same_number limit radix most text =
    ap (λ (tests : Bool). if tests then Some (digits_value radix text) else None)
    (swapped (nat_lt 0 (length text)) (list_all (λ byte. is_digit byte radix) text) (nat_le (length text) most) (nat_lt (digits_value radix text) limit))

offset_means : (text : List ℕ) → ok_or (offset_in text) words.BadNumber ≡ number_at_least 0 text
offset_means text =
    any (number_below 65536 16 8 text)
    ∙ ap (λ o. then_read (ok_or o words.BadNumber) λ n. if nat_lt n 0 then Err words.BadNumber else Ok n) (same_number 65536 16 8 text)
  where
    any : (o : Option ℕ) → ok_or o words.BadNumber ≡ then_read (ok_or o words.BadNumber) λ n. if nat_lt n 0 then Err words.BadNumber else Ok n
    any None = refl
    any (Some n) = rw (leb-suc-zero n) refl

width_means : (text : List ℕ) → ok_or (width_in text) words.BadNumber ≡ number_at_least 1 text
width_means text =
    some (number_below 65536 16 8 text)
    ∙ ap (λ o. then_read (ok_or o words.BadNumber) λ n. if nat_lt n 1 then Err words.BadNumber else Ok n) (same_number 65536 16 8 text)
  where
    some : (o : Option ℕ) → ok_or (positive o) words.BadNumber ≡ then_read (ok_or o words.BadNumber) λ n. if nat_lt n 1 then Err words.BadNumber else Ok n
    some None = refl
    some (Some zero) = refl
    some (Some (suc n)) = rw (ne_eqb (suc n) 0 (omega arith), leb-suc-suc (suc n) 0, leb-suc-zero n) refl

-- a step by a number, and what follows it
number_means : (read : List ℕ → Option ℕ) (least : ℕ) → ((text : List ℕ) → ok_or (read text) words.BadNumber ≡ number_at_least least text)
    → (step : ℕ → PartStep) (rest : Wanted → Result (List Block) Cause) (next : ℕ → Result (List Block) words.Cause)
    → ((n : ℕ) → areas_before (step n).areas (rest (step n).wanted) ≡ as_told (next n))
    → (text : List ℕ) → then_areas (number_step step (read text)) rest ≡ as_told (then_read (number_at_least least text) next)
number_means read least same step rest next follows text = go (read text) ∙ ap (λ r. as_told (then_read r next)) (same text)
  where
    go : (o : Option ℕ) → then_areas (number_step step o) rest ≡ as_told (then_read (ok_or o words.BadNumber) next)
    go None = refl
    go (Some n) = follows n

-- digits of a value, and what follows them
is_none : (n : ℕ) → not (nat_lt 0 n) ≡ (n == 0)
is_none zero = refl
is_none (suc n) = ap not (lt-ltb 0 (suc n) (omega arith)) ∙ sym (ne_eqb (suc n) 0 (omega arith))

value_means : (kind : TextKind) (offset width : ℕ) (rest : Wanted → Result (List Block) Cause) (next : List ℕ → Result (List Block) words.Cause)
    → ((digits : List ℕ) → areas_before (record { offset = offset; width = width; digits = digits } ∷ []) (rest wants_offset) ≡ as_told (next digits))
    → (text : List ℕ) → then_areas (part_step kind (wants_value offset width) (Some text)) rest ≡ as_told (then_read (value_digits width text) next)
value_means kind offset width rest next follows text =
    go (nat_lt 0 (length text)) (are_hex text) (fits_width width text)
    ∙ ap (λ none. as_told (then_read (if none || not (are_hex text) then Err words.BadNumber else if fits_width width text then Ok text else Err words.ValueWidth) next)) (is_none (length text))
  where
    go : (some hex fits : Bool)
        → then_areas (if some && hex then if fits then Ok record { areas = record { offset = offset; width = width; digits = text } ∷ []; wanted = wants_offset } else Err ValueWidth else Err BadNumber) rest
        ≡ as_told (then_read (if not some || not hex then Err words.BadNumber else if fits then Ok text else Err words.ValueWidth) next)
    go false hex fits = refl
    go true false fits = refl
    go true true false = refl
    go true true true = follows text

-- ---- parts, each with what follows it

offset_then : (kind : TextKind) (part : List ℕ) (rest : Wanted → Result (List Block) Cause) (next : ℕ → Result (List Block) words.Cause)
    → ((n : ℕ) → rest (wants_width n) ≡ as_told (next n))
    → then_areas (part_step kind wants_offset (body_in (codes "OFFSET=") part)) rest ≡ as_told (then_read (number_behind 0 (body_in (codes "OFFSET=") part)) next)
offset_then kind part rest next follows = go (body_in (codes "OFFSET=") part)
  where
    go : (text : Option (List ℕ)) → then_areas (part_step kind wants_offset text) rest ≡ as_told (then_read (number_behind 0 text) next)
    go None = refl
    go (Some text) =
        number_means offset_in 0 offset_means (λ n. record { areas = []; wanted = wants_width n }) rest next
        (λ n. areas_before_nil (rest (wants_width n)) ∙ follows n) text

width_then : (kind : TextKind) (offset : ℕ) (part : List ℕ) (rest : Wanted → Result (List Block) Cause) (next : ℕ → Result (List Block) words.Cause)
    → ((n : ℕ) → areas_before (width_step kind offset n).areas (rest (width_step kind offset n).wanted) ≡ as_told (next n))
    → then_areas (part_step kind (wants_width offset) (body_in (codes "WIDTH=") part)) rest ≡ as_told (then_read (number_behind 1 (body_in (codes "WIDTH=") part)) next)
width_then kind offset part rest next follows = go (body_in (codes "WIDTH=") part)
  where
    go : (text : Option (List ℕ)) → then_areas (part_step kind (wants_width offset) text) rest ≡ as_told (then_read (number_behind 1 text) next)
    go None = refl
    go (Some text) = number_means width_in 1 width_means (width_step kind offset) rest next follows text

value_then : (kind : TextKind) (offset width : ℕ) (part : List ℕ) (rest : Wanted → Result (List Block) Cause) (next : List ℕ → Result (List Block) words.Cause)
    → ((digits : List ℕ) → areas_before (record { offset = offset; width = width; digits = digits } ∷ []) (rest wants_offset) ≡ as_told (next digits))
    → then_areas (part_step kind (wants_value offset width) (body_in (codes "VALUE=") part)) rest ≡ as_told (then_read (digits_behind width (body_in (codes "VALUE=") part)) next)
value_then kind offset width part rest next follows = go (body_in (codes "VALUE=") part)
  where
    go : (text : Option (List ℕ)) → then_areas (part_step kind (wants_value offset width) text) rest ≡ as_told (then_read (digits_behind width text) next)
    go None = refl
    go (Some text) = value_means kind offset width rest next follows text

-- ---- blocks

-- a block before others
block_before : (block : Block) (areas : Result (List Block) Cause) (blocks : Result (List Block) words.Cause) → areas ≡ as_told blocks
    → areas_before (block ∷ []) areas ≡ as_told (then_read blocks λ blocks. Ok (block ∷ blocks))
block_before block areas blocks same = ap (areas_before (block ∷ [])) same ∙ go blocks
  where
    go : (blocks : Result (List Block) words.Cause) → areas_before (block ∷ []) (as_told blocks) ≡ as_told (then_read blocks λ blocks. Ok (block ∷ blocks))
    go (Ok blocks) = refl
    go (Err cause) = refl

requested_same : (parts : List (List ℕ)) → areas_in Ask wants_offset parts ≡ as_told (requested parts)
requested_same [] = refl
requested_same (offset ∷ []) = offset_then Ask offset (λ w. areas_in Ask w []) (λ n. Err words.BadElement) (λ n. refl)
requested_same (offset ∷ width ∷ parts) =
    let same = requested_same parts in
    offset_then Ask offset (λ w. areas_in Ask w (width ∷ parts)) _ λ n.
    width_then Ask n width (λ w. areas_in Ask w parts) _ λ m.
    block_before (record { offset = n; width = m; digits = [] }) (areas_in Ask wants_offset parts) _ same

responded_same : (parts : List (List ℕ)) → areas_in Tell wants_offset parts ≡ as_told (responded parts)
responded_same [] = refl
responded_same (offset ∷ []) = offset_then Tell offset (λ w. areas_in Tell w []) (λ n. Err words.BadElement) (λ n. refl)
responded_same (offset ∷ width ∷ []) =
    offset_then Tell offset (λ w. areas_in Tell w (width ∷ [])) _ λ n.
    width_then Tell n width (λ w. areas_in Tell w []) (λ m. Err words.BadElement) (λ m. refl)
responded_same (offset ∷ width ∷ value ∷ parts) =
    let same = responded_same parts in
    offset_then Tell offset (λ w. areas_in Tell w (width ∷ value ∷ parts)) _ λ n.
    width_then Tell n width (λ w. areas_in Tell w (value ∷ parts)) _ λ m.
    areas_before_nil (areas_in Tell (wants_value n m) (value ∷ parts))
    ∙ value_then Tell n m value (λ w. areas_in Tell w parts) _ λ digits.
    block_before (record { offset = n; width = m; digits = digits }) (areas_in Tell wants_offset parts) _ same

-- ---- headers

-- the header behind whose keys these texts stand, and the parts behind it
abbrev head_by : (guid name path : Option (List ℕ)) → List (List ℕ) → Option Head
head_by None name path rest = None
head_by (Some guid) None path rest = None
head_by (Some guid) (Some name) path rest = path_behind guid name (option_map (λ body. (body, rest)) path)

head_is : (guid name path : List ℕ) (rest : List (List ℕ))
    → head_in (guid ∷ name ∷ path ∷ rest) ≡ head_by (body_in (codes "GUID=") guid) (body_in (codes "NAME=") name) (body_in (codes "PATH=") path) rest
head_is guid name path rest = first (body_in (codes "GUID=") guid)
  where
    second : (g : List ℕ) (n : Option (List ℕ))
        → name_behind g (option_map (λ body. (body, path ∷ rest)) n) ≡ head_by (Some g) n (body_in (codes "PATH=") path) rest
    second g None = refl
    second g (Some n) = refl

    first : (g : Option (List ℕ))
        → guid_behind (option_map (λ body. (body, name ∷ path ∷ rest)) g) ≡ head_by g (body_in (codes "NAME=") name) (body_in (codes "PATH=") path) rest
    first None = refl
    first (Some g) = second g (body_in (codes "NAME=") name)

-- what a header names, and the parts behind it
abbrev headed : Head → Header × List (List ℕ)
headed head = (named_by head.guid head.name head.path, head.rest)

abbrev with_parts : List (List ℕ) → Option Header → Option (Header × List (List ℕ))
with_parts parts header = option_map (λ header. (header, parts)) header

-- 32 digits are 16 bytes
sixteen : (guid : List ℕ) → is_grouped 2 guid ≡ true → (length (group_numbers 2 guid) == 16) ≡ (length guid == 32)
sixteen guid are =
    let whole : length guid % 2 ≡ 0 = eqb-true (length guid % 2) 0 (and_parts (are_hex guid) (length guid % 2 == 0) are).1 in
    let count : length (group_numbers 2 guid) ≡ length guid / 2 = length_groups (length guid / 2) 2 guid in
    elim (cases_Bool (length guid == 32)) [
      | inl e ↦ eq-eqb _ _ (omega (arith, count, eqb-true (length guid) 32 e)) ∙ sym e
      | inr e ↦ ne_eqb _ _ (λ half.
          let is : (length guid == 32) ≡ true = eq-eqb _ _ (omega (arith, whole, count, half)) in
          let bad : true ≡ false = sym is ∙ e in (cc)) ∙ sym e
    ]

header_same : (guid name path : Option (List ℕ)) (rest : List (List ℕ))
    → option_map headed (head_by guid name path rest) ≡ with_parts rest (header_by guid name path)
header_same None name path rest = refl
header_same (Some guid) None path rest = go (is_grouped 2 guid)
  where
    go : (a : Bool) → None ≡ with_parts rest (option_and_then (λ guid. None) (if a then Some (group_numbers 2 guid) else None))
    go true = refl
    go false = refl
header_same (Some guid) (Some name) None rest = go (is_grouped 2 guid) (is_grouped 4 name)
  where
    go : (a b : Bool) → None ≡ with_parts rest
        (option_and_then (λ guid. option_and_then (λ name. None) (if b then Some (group_numbers 4 name) else None)) (if a then Some (group_numbers 2 guid) else None))
    go true true = refl
    go true false = refl
    go false b = refl
header_same (Some guid) (Some name) (Some path) rest = go (is_grouped 2 guid) (length guid == 32) (is_grouped 4 name) (is_grouped 2 path) (sixteen guid)
  where
    go : (a l b c : Bool) → (a ≡ true → (length (group_numbers 2 guid) == 16) ≡ l)
        → option_map headed (if (a && l) && (b && c) then Some record { guid = guid; name = name; path = path; rest = rest } else None)
        ≡ with_parts rest
        (option_and_then (λ guid. option_and_then (λ name. option_and_then (λ path.
        if length guid == 16 then Some record { guid = guid; name = name; path = path } else None)
        (if c then Some (group_numbers 2 path) else None))
        (if b then Some (group_numbers 4 name) else None))
        (if a then Some (group_numbers 2 guid) else None))
    go false l b c same = refl
    go true true false c same = refl
    go true false false c same = refl
    go true true true false same = refl
    go true false true false same = refl
    go true true true true same = rw (same refl) refl
    go true false true true same = rw (same refl) refl

-- ---- texts

parts_same : (kind : TextKind) (blocks_in : List (List ℕ) → Result (List Block) words.Cause)
    → ((parts : List (List ℕ)) → areas_in kind wants_offset parts ≡ as_told (blocks_in parts))
    → (parts : List (List ℕ)) → head_areas kind (head_in parts) ≡ as_told (of_parts blocks_in parts)
parts_same kind blocks_in same [] = refl
parts_same kind blocks_in same (guid ∷ []) = go (body_in (codes "GUID=") guid)
  where
    go : (g : Option (List ℕ)) → head_areas kind (guid_behind (option_map (λ body. (body, [])) g)) ≡ Err BadHeader
    go None = refl
    go (Some g) = refl
parts_same kind blocks_in same (guid ∷ name ∷ []) = first (body_in (codes "GUID=") guid)
  where
    second : (g : List ℕ) (n : Option (List ℕ)) → head_areas kind (name_behind g (option_map (λ body. (body, [])) n)) ≡ Err BadHeader
    second g None = refl
    second g (Some n) = refl

    first : (g : Option (List ℕ)) → head_areas kind (guid_behind (option_map (λ body. (body, name ∷ [])) g)) ≡ Err BadHeader
    first None = refl
    first (Some g) = second g (body_in (codes "NAME=") name)
parts_same kind blocks_in same (guid ∷ name ∷ path ∷ parts) =
    let g = body_in (codes "GUID=") guid in
    let n = body_in (codes "NAME=") name in
    let p = body_in (codes "PATH=") path in
    ap (head_areas kind) (head_is guid name path parts)
    ∙ from_head (head_by g n p parts)
    ∙ ap (λ header. as_told (given header)) (header_same g n p parts)
    ∙ ap as_told (from_header (header_by g n p))
  where
    given : Option (Header × List (List ℕ)) → Result (Header × List Block) words.Cause
    given None = Err words.BadHeader
    given (Some (header, parts)) = then_read (blocks_in parts) λ blocks. Ok (header, blocks)

    with_areas : (head : Head) (blocks : Result (List Block) words.Cause) → named_areas head (as_told blocks) ≡ as_told (then_read blocks λ blocks. Ok ((headed head).0, blocks))
    with_areas head (Ok blocks) = refl
    with_areas head (Err cause) = refl

    from_head : (head : Option Head) → head_areas kind head ≡ as_told (given (option_map headed head))
    from_head None = refl
    from_head (Some head) = ap (named_areas head) (same head.rest) ∙ with_areas head (blocks_in head.rest)

    from_header : (header : Option Header)
        → given (with_parts parts header) ≡ then_read (ok_or header words.BadHeader) λ header. then_read (blocks_in parts) λ blocks. Ok (header, blocks)
    from_header None = refl
    from_header (Some header) = refl

pub reading_means : (kind : TextKind) (text : List ℕ) → reading_of kind text ≡ configuration_in kind text
reading_means Ask text = parts_same Ask requested requested_same (text_parts text)
reading_means Tell text = parts_same Tell responded responded_same (text_parts text)

-- a result of what the code reads
pub as_ruled : {X : Type 0} (kind : TextKind) (text : List ℕ) (view : X → Header × List Block) (r : Result X Cause)
    → MatchResult r (λ x. reading_of kind text ≡ Ok (view x)) (λ cause. reading_of kind text ≡ Err cause)
    → MatchResult r (λ x. configuration_in kind text ≡ Ok (view x)) (λ cause. configuration_in kind text ≡ Err cause)
as_ruled kind text view r =
    subst (λ reading. MatchResult r (λ x. reading ≡ Ok (view x)) (λ cause. reading ≡ Err cause)) (reading_means kind text)

-- ---- the causes of the rules

-- a reading that fails by no other cause
abbrev IsOfTexts : {X : Type 0} → Result X words.Cause → Type 0
IsOfTexts (Ok x) = Unit {0}
IsOfTexts (Err told) = is_of_texts told ≡ true

found_of : {X : Type 0} (o : Option X) (told : words.Cause) → is_of_texts told ≡ true → IsOfTexts (ok_or o told)
found_of None told is = is
found_of (Some x) told is = tt

then_of : {X Y : Type 0} (r : Result X words.Cause) (next : X → Result Y words.Cause) → IsOfTexts r → ((x : X) → IsOfTexts (next x)) → IsOfTexts (then_read r next)
then_of (Ok x) next is follows = follows x
then_of (Err told) next is follows = is

number_of : (least : ℕ) (text : Option (List ℕ)) → IsOfTexts (number_behind least text)
number_of least text =
    then_of (ok_or text words.BadElement) _ (found_of text words.BadElement refl) λ text.
    then_of (ok_or (words.number_below 65536 16 8 text) words.BadNumber) _ (found_of (words.number_below 65536 16 8 text) words.BadNumber refl) λ n. small n (nat_lt n least)
  where
    small : (n : ℕ) (is : Bool) → IsOfTexts (if is then Err words.BadNumber else Ok n)
    small n true = refl
    small n false = tt

digits_of : (width : ℕ) (text : Option (List ℕ)) → IsOfTexts (digits_behind width text)
digits_of width text =
    then_of (ok_or text words.BadElement) _ (found_of text words.BadElement refl) λ digits. value digits (length digits == 0 || not (are_hex digits)) (fits_width width digits)
  where
    value : (digits : List ℕ) (bad fits : Bool) → IsOfTexts (if bad then Err words.BadNumber else if fits then Ok digits else Err words.ValueWidth)
    value digits true fits = refl
    value digits false true = tt
    value digits false false = refl

requested_of : (parts : List (List ℕ)) → IsOfTexts (requested parts)
requested_of [] = tt
requested_of (offset ∷ []) = then_of (number_behind 0 (body_in (codes "OFFSET=") offset)) _ (number_of 0 (body_in (codes "OFFSET=") offset)) (λ n. refl)
requested_of (offset ∷ width ∷ parts) =
    let rest = requested_of parts in
    then_of (number_behind 0 (body_in (codes "OFFSET=") offset)) _ (number_of 0 (body_in (codes "OFFSET=") offset)) λ n.
    then_of (number_behind 1 (body_in (codes "WIDTH=") width)) _ (number_of 1 (body_in (codes "WIDTH=") width)) λ m.
    then_of (requested parts) _ rest (λ blocks. tt)

responded_of : (parts : List (List ℕ)) → IsOfTexts (responded parts)
responded_of [] = tt
responded_of (offset ∷ []) = then_of (number_behind 0 (body_in (codes "OFFSET=") offset)) _ (number_of 0 (body_in (codes "OFFSET=") offset)) (λ n. refl)
responded_of (offset ∷ width ∷ []) =
    then_of (number_behind 0 (body_in (codes "OFFSET=") offset)) _ (number_of 0 (body_in (codes "OFFSET=") offset)) λ n.
    then_of (number_behind 1 (body_in (codes "WIDTH=") width)) _ (number_of 1 (body_in (codes "WIDTH=") width)) (λ m. refl)
responded_of (offset ∷ width ∷ value ∷ parts) =
    let rest = responded_of parts in
    then_of (number_behind 0 (body_in (codes "OFFSET=") offset)) _ (number_of 0 (body_in (codes "OFFSET=") offset)) λ n.
    then_of (number_behind 1 (body_in (codes "WIDTH=") width)) _ (number_of 1 (body_in (codes "WIDTH=") width)) λ m.
    then_of (digits_behind m (body_in (codes "VALUE=") value)) _ (digits_of m (body_in (codes "VALUE=") value)) λ digits.
    then_of (responded parts) _ rest (λ blocks. tt)

parts_of : (blocks_in : List (List ℕ) → Result (List Block) words.Cause) → ((parts : List (List ℕ)) → IsOfTexts (blocks_in parts))
    → (parts : List (List ℕ)) → IsOfTexts (of_parts blocks_in parts)
parts_of blocks_in are [] = refl
parts_of blocks_in are (guid ∷ []) = refl
parts_of blocks_in are (guid ∷ name ∷ []) = refl
parts_of blocks_in are (guid ∷ name ∷ path ∷ parts) =
    let header = header_by (body_in (codes "GUID=") guid) (body_in (codes "NAME=") name) (body_in (codes "PATH=") path) in
    then_of (ok_or header words.BadHeader) _ (found_of header words.BadHeader refl) λ header.
    then_of (blocks_in parts) _ (are parts) (λ blocks. tt)

pub by_four : (text : List ℕ) (told : words.Cause) → (request_in text ≡ Err told) ⊎ (response_in text ≡ Err told) → is_of_texts told ≡ true
by_four text told (inl e) = subst IsOfTexts e (parts_of requested requested_of (text_parts text))
by_four text told (inr e) = subst IsOfTexts e (parts_of responded responded_of (text_parts text))
