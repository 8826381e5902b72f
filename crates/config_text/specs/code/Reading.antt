-- What the code reads a configuration text as. A lemma says that it is what the rules say.
use Rattle.std.specs.Prelude.{ℕ, ◌==◌, nat_lt, ◌&&◌, if◌then◌else◌, Bool, List, [], ◌∷◌, ◌++◌, length, codes, Option, Some, None, Result, Ok, Err}
use Rattle.hii_bytes.specs.declared.cause.Cause.{Cause}
use Rattle.hii_bytes.specs.declared.cause.Cause.TheVariants.{BadHeader, BadElement, BadNumber, ValueWidth}
use Rattle.config_text.specs.code.Parts.{text_parts}
use Rattle.config_text.specs.code.PartReading.{body_in, body_first, offset_in, width_in, are_hex, is_grouped, group_numbers, fits_width}
use Rattle.browser_rules.specs.Configuration.{Header, Block}
use Rattle.config_text.specs.declared.kind.TextKind.{TextKind}
use Rattle.config_text.specs.declared.kind.TextKind.TheVariants.{Ask, Tell}

-- the part that is wanted next: an offset, the width of an offset, the value of an offset and a width
pub data Wanted : Type 0 where
  wants_offset : Wanted
  wants_width : ℕ → Wanted
  wants_value : ℕ → ℕ → Wanted

abbrev pub key_of : Wanted → List ℕ
key_of wants_offset = codes "OFFSET="
key_of (wants_width offset) = codes "WIDTH="
key_of (wants_value offset width) = codes "VALUE="

-- whether digits are those of a header
abbrev pub are_header_digits : List ℕ → List ℕ → List ℕ → Bool
are_header_digits guid name path =
    (is_grouped 2 guid && length guid == 32) && (is_grouped 4 name && is_grouped 2 path)

-- what the digits of a header name
abbrev pub named_by : List ℕ → List ℕ → List ℕ → Header
named_by guid name path =
    record { guid = group_numbers 2 guid; name = group_numbers 4 name; path = group_numbers 2 path }

-- the digits of a header, with the parts behind it
pub record Head : Type 0 where
  pub guid : List ℕ
  pub name : List ℕ
  pub path : List ℕ
  pub rest : List (List ℕ)

abbrev pub path_behind : List ℕ → List ℕ → Option (List ℕ × List (List ℕ)) → Option Head
path_behind guid name None = None
path_behind guid name (Some (path, rest)) =
    if are_header_digits guid name path then Some record { guid = guid; name = name; path = path; rest = rest }
    else None

abbrev pub name_behind : List ℕ → Option (List ℕ × List (List ℕ)) → Option Head
name_behind guid None = None
name_behind guid (Some (name, parts)) = path_behind guid name (body_first (codes "PATH=") parts)

abbrev pub guid_behind : Option (List ℕ × List (List ℕ)) → Option Head
guid_behind None = None
guid_behind (Some (guid, parts)) = name_behind guid (body_first (codes "NAME=") parts)

-- the header at the front of the parts
abbrev pub head_in : List (List ℕ) → Option Head
head_in parts = guid_behind (body_first (codes "GUID=") parts)

-- What a part that is as wanted gives: the blocks that end with it, and what is wanted then.
pub record PartStep : Type 0 where
  pub areas : List Block
  pub wanted : Wanted

-- the step of a number
abbrev pub number_step : (ℕ → PartStep) → Option ℕ → Result PartStep Cause
number_step step None = Err BadNumber
number_step step (Some n) = Ok (step n)

-- the step of a width: it ends a block of a request, and wants a value in a response
abbrev pub width_step : TextKind → ℕ → ℕ → PartStep
width_step Ask offset width =
    record { areas = record { offset = offset; width = width; digits = [] } ∷ []; wanted = wants_offset }
width_step Tell offset width = record { areas = []; wanted = wants_value offset width }

-- the step of what stands behind the key that is wanted
abbrev pub step_of : TextKind → Wanted → List ℕ → Result PartStep Cause
step_of kind wants_offset body = number_step (λ n. record { areas = []; wanted = wants_width n }) (offset_in body)
step_of kind (wants_width offset) body = number_step (width_step kind offset) (width_in body)
step_of kind (wants_value offset width) body =
    if nat_lt 0 (length body) && are_hex body then
    if fits_width width body then
    Ok record { areas = record { offset = offset; width = width; digits = body } ∷ []; wanted = wants_offset }
    else Err ValueWidth
    else Err BadNumber

abbrev pub part_step : TextKind → Wanted → Option (List ℕ) → Result PartStep Cause
part_step kind wanted None = Err BadElement
part_step kind wanted (Some body) = step_of kind wanted body

-- blocks before others
abbrev pub areas_before : List Block → Result (List Block) Cause → Result (List Block) Cause
areas_before areas (Err cause) = Err cause
areas_before areas (Ok others) = Ok (areas ++ others)

abbrev pub then_areas : Result PartStep Cause → (Wanted → Result (List Block) Cause) → Result (List Block) Cause
then_areas (Err cause) follow = Err cause
then_areas (Ok step) follow = areas_before step.areas (follow step.wanted)

-- no more parts
abbrev pub at_end : Wanted → Result (List Block) Cause
at_end wants_offset = Ok []
at_end (wants_width offset) = Err BadElement
at_end (wants_value offset width) = Err BadElement

-- the blocks of parts, or the first fault
abbrev pub areas_in : TextKind → Wanted → List (List ℕ) → Result (List Block) Cause
areas_in kind wanted [] = at_end wanted
areas_in kind wanted (part ∷ parts) =
    then_areas (part_step kind wanted (body_in (key_of wanted) part)) (λ next. areas_in kind next parts)

-- what is named, with the blocks
abbrev pub named_areas : Head → Result (List Block) Cause → Result (Header × List Block) Cause
named_areas head (Err cause) = Err cause
named_areas head (Ok areas) = Ok (named_by head.guid head.name head.path, areas)

abbrev pub head_areas : TextKind → Option Head → Result (Header × List Block) Cause
head_areas kind None = Err BadHeader
head_areas kind (Some head) = named_areas head (areas_in kind wants_offset head.rest)

-- what a text is read as: what its header names and its blocks, or its leftmost fault
abbrev pub reading_of : TextKind → List ℕ → Result (Header × List Block) Cause
reading_of kind text = head_areas kind (head_in (text_parts text))
