-- Configuration texts (UEFI 2.8, 34.2.1 String Grammar; limits, the order of faults and what is written are own rules):
--
--   header   = "GUID=" 32 hex "&NAME=" (4 hex)* "&PATH=" (2 hex)*
--   request  = header ("&OFFSET=" (1 to 8 hex) "&WIDTH=" (1 to 8 hex))*
--   response = header ("&OFFSET=" (1 to 8 hex) "&WIDTH=" (1 to 8 hex) "&VALUE=" (1 hex or more))*
use Rattle.std.specs.Prelude.{ℕ, zero, suc, ◌+◌, ◌-◌, ◌*◌, ◌/◌, ◌%◌, Bool, ◌==◌, ◌&&◌, ◌||◌, nat_lt, not, if◌then◌else◌}
use Rattle.std.specs.Prelude.{Option, Some, None, option_map, option_and_then, is_some, Result, Ok, Err, List, [], ◌∷◌}
use Rattle.std.specs.Prelude.{◌++◌, length, take, drop, reverse, slice_range, codes, bytes_eq}
use Rattle.std.specs.Char.{is_digit}
use Rattle.std.specs.List.{find, flat_map, list_all, slice_split}
use Rattle.std.specs.Option.{ok_or}
use Rattle.std.specs.Str.Parse.{digits_value}
use Prim.Native.String.{String}
use Rattle.browser_rules.specs.Words.{Cause, BadHeader, BadElement, BadNumber, ValueWidth, number_below, hex_of}
use Rattle.browser_rules.specs.Forest.{Node}
use Rattle.browser_rules.specs.Stores.{store_nodes, store_id, store_guid, store_name, store_size}

-- a header names a GUID, the characters of a name and a device path; a block has an offset, a width and its hex digits
pub record Header : Type 0 where
  pub guid : List ℕ
  pub name : List ℕ
  pub path : List ℕ

pub record Block : Type 0 where
  pub offset : ℕ
  pub width : ℕ
  pub digits : List ℕ

-- ---- a header: the first three parts of those between `&`

-- what stands behind a key, where a part begins with it
abbrev pub behind_key : String → List ℕ → Option (List ℕ)
behind_key key part =
    let size = length (codes key) in if bytes_eq (take size part) (codes key) then Some (drop size part) else None

abbrev pub are_hex : List ℕ → Bool
are_hex digits = list_all (λ byte. is_digit byte 16) digits

-- the numbers that groups of so many hex digits are, where a text is whole groups
abbrev pub groups_from : ℕ → ℕ → List ℕ → List ℕ
groups_from zero size text = []
groups_from (suc count) size text = digits_value 16 (take size text) ∷ groups_from count size (drop size text)

abbrev pub groups : ℕ → List ℕ → Option (List ℕ)
groups size text =
    if are_hex text && length text % size == 0 then Some (groups_from (length text / size) size text) else None

abbrev pub header_of : List ℕ → List ℕ → List ℕ → Option Header
header_of guid name path =
    option_and_then (λ guid. option_and_then (λ name. option_and_then (λ path.
    if length guid == 16 then Some record { guid = guid; name = name; path = path } else None)
    (option_and_then (groups 2) (behind_key "PATH=" path)))
    (option_and_then (groups 4) (behind_key "NAME=" name)))
    (option_and_then (groups 2) (behind_key "GUID=" guid))

-- ---- blocks: two parts each in a request, three in a response; the leftmost part that is bad is told

abbrev pub then_read : {X Y : Type 0} → Result X Cause → (X → Result Y Cause) → Result Y Cause
then_read (Err cause) next = Err cause
then_read (Ok x) next = next x

-- a number behind a key: 1 to 8 hex digits, at most FFFF, and so much at least
abbrev pub number_behind : String → ℕ → List ℕ → Result ℕ Cause
number_behind key least part =
    then_read (ok_or (behind_key key part) BadElement) λ text.
    then_read (ok_or (number_below 65536 16 8 text) BadNumber) λ n. if nat_lt n least then Err BadNumber else Ok n

-- the hex digits of a value: one or more, of which those before the last `2 * width` are 0
abbrev pub digits_behind : ℕ → List ℕ → Result (List ℕ) Cause
digits_behind width part =
    then_read (ok_or (behind_key "VALUE=" part) BadElement) λ digits.
    if length digits == 0 || not (are_hex digits) then Err BadNumber
    else if list_all (λ digit. digit == 48) (take (length digits - 2 * width) digits) then Ok digits else Err ValueWidth

abbrev pub requested : List (List ℕ) → Result (List Block) Cause
requested [] = Ok []
requested (offset ∷ []) = then_read (number_behind "OFFSET=" 0 offset) λ offset. Err BadElement
requested (offset ∷ width ∷ parts) =
    then_read (number_behind "OFFSET=" 0 offset) λ offset.
    then_read (number_behind "WIDTH=" 1 width) λ width.
    then_read (requested parts) λ blocks. Ok (record { offset = offset; width = width; digits = [] } ∷ blocks)

abbrev pub responded : List (List ℕ) → Result (List Block) Cause
responded [] = Ok []
responded (offset ∷ []) = then_read (number_behind "OFFSET=" 0 offset) λ offset. Err BadElement
responded (offset ∷ width ∷ []) =
    then_read (number_behind "OFFSET=" 0 offset) λ offset.
    then_read (number_behind "WIDTH=" 1 width) λ width. Err BadElement
responded (offset ∷ width ∷ value ∷ parts) =
    then_read (number_behind "OFFSET=" 0 offset) λ offset.
    then_read (number_behind "WIDTH=" 1 width) λ width.
    then_read (digits_behind width value) λ digits.
    then_read (responded parts) λ blocks. Ok (record { offset = offset; width = width; digits = digits } ∷ blocks)

-- ---- a whole text: a header, and behind it blocks, if there are some

abbrev pub of_parts : (List (List ℕ) → Result (List Block) Cause) → List (List ℕ) → Result (Header × List Block) Cause
of_parts blocks_in (guid ∷ name ∷ path ∷ parts) =
    then_read (ok_or (header_of guid name path) BadHeader) λ header.
    then_read (blocks_in parts) λ blocks. Ok (header, blocks)
of_parts blocks_in _ = Err BadHeader

abbrev pub request_in : List ℕ → Result (Header × List Block) Cause
request_in text = of_parts requested (slice_split (λ byte. byte == 38) text)

abbrev pub response_in : List ℕ → Result (Header × List Block) Cause
response_in text = of_parts responded (slice_split (λ byte. byte == 38) text)

-- ---- the first buffer store by place that a header names: by its GUID, its name, and the list's device path

abbrev pub store_named : List Node → List ℕ → Header → Option ℕ
store_named ns path header =
    option_map store_id
    (find (λ n. is_some (store_size n) && bytes_eq header.guid (store_guid n) && bytes_eq header.name (store_name n)
    && bytes_eq header.path path) (store_nodes ns))

-- ---- writing: lower case, four digits for a number, two for each byte of a value, the highest byte first

-- the blocks that a request asks for: its own, or where it has none the whole store, if that has bytes
abbrev pub blocks_asked : List Block → ℕ → List Block
blocks_asked [] zero = []
blocks_asked [] size = record { offset = 0; width = size; digits = [] } ∷ []
blocks_asked blocks size = blocks

abbrev pub four_digits : ℕ → List ℕ
four_digits n = hex_of (n / 256) ++ hex_of (n % 256)

abbrev pub block_text : List ℕ → Block → List ℕ
block_text store b =
    codes "&OFFSET=" ++ four_digits b.offset ++ codes "&WIDTH=" ++ four_digits b.width ++ codes "&VALUE="
    ++ flat_map hex_of (reverse (slice_range store b.offset (b.offset + b.width)))

abbrev pub response_text : Header → List Block → List ℕ → List ℕ
response_text header blocks store =
    codes "GUID=" ++ flat_map hex_of header.guid ++ codes "&NAME=" ++ flat_map four_digits header.name
    ++ codes "&PATH=" ++ flat_map hex_of header.path ++ flat_map (block_text store) blocks
