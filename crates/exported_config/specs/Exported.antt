-- The text that ExportConfig gives, read (UEFI 2.8, 34.2.1 String Grammar, MultiConfigAltResp; limits and the order of faults are own
-- rules). Elements stand between `&`, CR and LF, and a `GUID=` begins a response:
--
--   response = "GUID=" 32 hex  "NAME=" (4 hex)*  block*
--   block    = "OFFSET=" (1 to 16 hex)  "WIDTH=" (1 to 16 hex)  "VALUE=" (1 hex or more)
--
-- Elements of other keys are passed over wherever they stand, so PATH is. A response with ALTCFG tells an alternative.
use Rattle.std.specs.Prelude.{ℕ, zero, suc, ◌+◌, ◌-◌, ◌*◌, ◌/◌, ◌%◌, ◌^◌, Bool, true, false, ◌==◌, ◌&&◌, ◌||◌, nat_le, nat_lt, not, if◌then◌else◌}
use Rattle.std.specs.Prelude.{Option, Some, None, option_map, option_and_then, is_some, Result, Ok, Err, List, [], ◌∷◌, ◌++◌, length, take, drop}
use Rattle.std.specs.List.{list_all, slice_split}
use Rattle.hii_bytes.specs.Digits.{number_below}
use Rattle.browser_rules.specs.Configuration.{Block, behind_key, are_hex}
use Rattle.exported_config.specs.declared.unread.Part.{Part}
use Rattle.exported_config.specs.declared.unread.Part.TheVariants.{Guid, Name, Offset, Width, Value, NoGuid, NoValue}
use Rattle.exported_config.specs.declared.unread.BadResponse.{BadResponse}
use Rattle.exported_config.specs.declared.reading.Wanted.{Wanted}
use Rattle.exported_config.specs.declared.reading.Wanted.TheVariants.{AnOffset, AWidth, AValue}

-- a response: the numbers of its GUID, the characters of its name, if it has one yet, its blocks, and whether it tells an alternative
pub record Response : Type 0 where
  pub guid : List ℕ
  pub name : Option (List ℕ)
  pub blocks : List Block
  pub is_alternative : Bool

-- what was read: the responses before the one that is read, this one, and what its block wants
pub record Reading : Type 0 where
  pub before : List Response
  pub current : Option Response
  pub wanted : Wanted

abbrev pub nothing_read : Reading
nothing_read = record { before = []; current = None; wanted = AnOffset }

abbrev pub started : Option Response → List Response
started None = []
started (Some response) = response ∷ []

-- the responses that were begun, and how many
abbrev pub responses_of : Reading → List Response
responses_of r = r.before ++ started r.current

abbrev pub number_of : Reading → ℕ
number_of r = length (responses_of r)

-- what is bad in the response that is read
abbrev pub bad : {X : Type 0} → Reading → Part → Result X BadResponse
bad r part = Err record { number = number_of r; part = part }

-- ---- what an element does to what was read

-- whether no block lacks something
abbrev pub is_whole : Wanted → Bool
is_whole AnOffset = true
is_whole (AWidth offset) = false
is_whole (AValue offset width) = false

-- the numbers of whole groups of so many hex digits
abbrev pub numbers : ℕ → ℕ → List ℕ → Option (List ℕ)
numbers zero size text = Some []
numbers (suc count) size text =
    option_and_then (λ n. option_map (λ ns. n ∷ ns) (numbers count size (drop size text))) (number_below (2 ^ 64) 16 size (take size text))

abbrev pub groups : ℕ → List ℕ → Option (List ℕ)
groups size text = if length text % size == 0 then numbers (length text / size) size text else None

abbrev pub is_guid : List ℕ → Bool
is_guid numbers = length numbers == 16

-- GUID: another response begins
abbrev pub begun_with : Reading → Option (List ℕ) → Result Reading BadResponse
begun_with r None = Err record { number = number_of r + 1; part = Guid }
begun_with r (Some guid) =
    if is_guid guid then Ok record {
      before = responses_of r;
      current = Some record { guid = guid; name = None; blocks = []; is_alternative = false };
      wanted = AnOffset;
    } else Err record { number = number_of r + 1; part = Guid }

abbrev pub begun : Reading → List ℕ → Result Reading BadResponse
begun r digits = if is_whole r.wanted then begun_with r (groups 2 digits) else bad r NoValue

-- all others stand in a response
abbrev pub inside : Option Response → (Response → Result Reading BadResponse) → Result Reading BadResponse
inside None next = Err record { number = 1; part = NoGuid }
inside (Some response) next = next response

abbrev pub in_response : Reading → (Response → Result Reading BadResponse) → Result Reading BadResponse
in_response r next = inside r.current next

-- NAME: once, before all blocks
abbrev pub named_with : Reading → Response → Option (List ℕ) → Result Reading BadResponse
named_with r response None = bad r Name
named_with r response (Some name) =
    Ok record { before = r.before; current = Some record { guid = response.guid; name = Some name; blocks = response.blocks; is_alternative = response.is_alternative }; wanted = r.wanted }

abbrev pub named : Reading → List ℕ → Result Reading BadResponse
named r digits = in_response r λ response.
    if not (is_whole r.wanted) then bad r NoValue
    else if is_some response.name then bad r Name
    else named_with r response (groups 4 digits)

-- OFFSET: a block begins
abbrev pub wanting_now : Reading → Wanted → Reading
wanting_now r wanted = record { before = r.before; current = r.current; wanted = wanted }

abbrev pub wanting : Reading → Part → Option Wanted → Result Reading BadResponse
wanting r part None = bad r part
wanting r part (Some wanted) = Ok (wanting_now r wanted)

abbrev pub sixteen_digits : List ℕ → Option ℕ
sixteen_digits digits = number_below (2 ^ 64) 16 16 digits

abbrev pub placed : Reading → List ℕ → Result Reading BadResponse
placed r digits = in_response r λ response.
    if not (is_whole r.wanted) then bad r NoValue
    else if is_some response.name then wanting r Offset (option_map AWidth (sixteen_digits digits))
    else bad r Name

-- WIDTH: behind the offset
abbrev pub widened_at : Reading → List ℕ → Wanted → Result Reading BadResponse
widened_at r digits (AWidth offset) = wanting r Width (option_map (AValue offset) (sixteen_digits digits))
widened_at r digits AnOffset = bad r Width
widened_at r digits (AValue offset width) = bad r Width

abbrev pub widened : Reading → List ℕ → Result Reading BadResponse
widened r digits = in_response r λ response. widened_at r digits r.wanted

-- VALUE: behind the width; a block ends at 65,536 at most, and the digits before the last two for each of its bytes are 0
abbrev pub fits_width : ℕ → List ℕ → Bool
fits_width width digits = list_all (λ digit. digit == 48) (take (length digits - 2 * width) digits)

abbrev pub is_value : ℕ → ℕ → List ℕ → Bool
is_value offset width digits =
    nat_lt 0 (length digits) && (are_hex digits && (nat_le (offset + width) 65536 && fits_width width digits))

abbrev pub with_block : Response → Block → Response
with_block response block =
    record { guid = response.guid; name = response.name; blocks = response.blocks ++ (block ∷ []); is_alternative = response.is_alternative }

abbrev pub valued_at : Reading → Response → List ℕ → Wanted → Result Reading BadResponse
valued_at r response digits (AValue offset width) =
    if is_value offset width digits then Ok record {
      before = r.before;
      current = Some (with_block response record { offset = offset; width = width; digits = digits });
      wanted = AnOffset;
    } else bad r Value
valued_at r response digits AnOffset = bad r Value
valued_at r response digits (AWidth offset) = bad r Value

abbrev pub valued : Reading → List ℕ → Result Reading BadResponse
valued r digits = in_response r λ response. valued_at r response digits r.wanted

-- ALTCFG: what the response tells is an alternative
abbrev pub marked : Reading → Result Reading BadResponse
marked r = in_response r λ response. Ok record {
  before = r.before;
  current = Some record { guid = response.guid; name = response.name; blocks = response.blocks; is_alternative = true };
  wanted = r.wanted;
}

abbrev pub if_some : {X Y : Type 0} → Option X → (X → Y) → Y → Y
if_some None then_what otherwise = otherwise
if_some (Some x) then_what otherwise = then_what x

abbrev pub step : Reading → List ℕ → Result Reading BadResponse
step r element =
    if_some (behind_key "GUID=" element) (begun r)
    (if_some (behind_key "NAME=" element) (named r)
    (if_some (behind_key "OFFSET=" element) (placed r)
    (if_some (behind_key "WIDTH=" element) (widened r)
    (if_some (behind_key "VALUE=" element) (valued r)
    (if_some (behind_key "ALTCFG=" element) (λ _. marked r) (Ok r))))))

-- ---- a whole text

abbrev pub then_read : {X Y : Type 0} → Result X BadResponse → (X → Result Y BadResponse) → Result Y BadResponse
then_read (Err fault) next = Err fault
then_read (Ok x) next = next x

abbrev pub read_all : Reading → List (List ℕ) → Result Reading BadResponse
read_all r [] = Ok r
read_all r (element ∷ elements) = then_read (step r element) λ r. read_all r elements

-- a block that lacks something is none
abbrev pub ended : Reading → Result (List Response) BadResponse
ended r = if is_whole r.wanted then Ok (responses_of r) else bad r NoValue

abbrev pub is_separator : ℕ → Bool
is_separator byte = byte == 38 || byte == 13 || byte == 10

abbrev pub responses_in : List ℕ → Result (List Response) BadResponse
responses_in text = then_read (read_all nothing_read (slice_split is_separator text)) ended
