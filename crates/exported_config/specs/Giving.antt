-- What the responses of a text give to a store (own rule).
use Rattle.std.specs.Prelude.{ℕ, ◌+◌, Bool, true, false, ◌&&◌, nat_lt, not, if◌then◌else◌}
use Rattle.std.specs.Prelude.{Option, Some, None, option_map, option_and_then, Result, Ok, List, [], ◌∷◌, ◌++◌, take, drop, map, filter, replicate, bytes_eq}
use Rattle.std.specs.List.{count_by, find, flat_map, list_any}
use Rattle.std.specs.Str.Parse.{digits_value}
use Rattle.byteorder.specs.Endian.{little_bytes}
use Rattle.browser_rules.specs.Configuration.{Block}
use Rattle.exported_config.specs.Exported.{Response, responses_in, then_read}
use Rattle.exported_config.specs.declared.giving.Given as code
use Rattle.exported_config.specs.declared.unread.BadResponse.{BadResponse}

-- a store of the list by its GUID and its name
pub record Named : Type 0 where
  pub guid : List ℕ
  pub name : List ℕ

abbrev pub is_name : Option (List ℕ) → List ℕ → Bool
is_name None name = false
is_name (Some own) name = bytes_eq own name

abbrev pub is_of : Response → List ℕ → List ℕ → Bool
is_of r guid name = bytes_eq r.guid guid && is_name r.name name

-- An alternative, and a response without blocks, count for nothing.
abbrev pub has_some : {X : Type 0} → List X → Bool
has_some [] = false
has_some (x ∷ xs) = true

abbrev pub counts : Response → Bool
counts r = not r.is_alternative && has_some r.blocks

abbrev pub is_of_a_store : List Named → Response → Bool
is_of_a_store stores r = list_any (λ s. is_of r s.guid s.name) stores

abbrev pub is_own : List Named → Response → Bool
is_own stores r = counts r && is_of_a_store stores r

abbrev pub is_other : List Named → Response → Bool
is_other stores r = counts r && not (is_of_a_store stores r)

-- the responses that count: those of a store of the list by GUID and NAME, and the others
pub record Exported : Type 0 where
  pub own : List Response
  pub others : List Response

abbrev pub parted : List Named → List Response → Exported
parted stores responses = record {
  own = filter (λ r. counts r && is_of_a_store stores r) responses;
  others = filter (λ r. counts r && not (is_of_a_store stores r)) responses;
}

abbrev pub exported : List Named → List ℕ → Result Exported BadResponse
exported stores text = then_read (responses_in text) λ responses. Ok (parted stores responses)

-- ---- the bytes of a store

-- a block laid over bytes, and over the marks of those that are given
abbrev pub laid : List ℕ → Block → List ℕ
laid bytes b = take b.offset bytes ++ (little_bytes b.width (digits_value 16 b.digits) ++ drop (b.offset + b.width) bytes)

abbrev pub marked : List Bool → Block → List Bool
marked marks b = take b.offset marks ++ (replicate b.width true ++ drop (b.offset + b.width) marks)

-- blocks one after the other, later ones over earlier ones
abbrev pub all_laid : {X : Type 0} → (List X → Block → List X) → List X → List Block → List X
all_laid lay xs [] = xs
all_laid lay xs (b ∷ blocks) = all_laid lay (lay xs b) blocks

-- the bytes of a store that holds so many, zeros where none are given; and how many are given
abbrev pub bytes_laid : ℕ → List Block → List ℕ
bytes_laid size blocks = all_laid laid (replicate size 0) blocks

abbrev pub count_laid : ℕ → List Block → ℕ
count_laid size blocks = count_by (λ mark. mark) (all_laid marked (replicate size false) blocks)

abbrev pub leaves : ℕ → Block → Bool
leaves size b = nat_lt size (b.offset + b.width)

-- what a store is given: how many bytes, the bytes, zeros between them, and the name under which they stand, where it is not the store's,
-- a character a byte, and `?` for one that is none
pub record Given : Type 0 where
  pub count : ℕ
  pub bytes : List ℕ
  pub alias : Option (List ℕ)

abbrev pub given_view : code.Given → Given
given_view g = record { count = g.count; bytes = g.bytes.items; alias = option_map (λ name. name.items) g.alias }

-- a block that leaves the store gives none, and counts up to its end
abbrev pub given_by : Option (List ℕ) → ℕ → List Block → Option Block → Given
given_by alias size blocks None = record { count = count_laid size blocks; bytes = bytes_laid size blocks; alias = alias }
given_by alias size blocks (Some b) = record { count = b.offset + b.width; bytes = []; alias = alias }

abbrev pub byte_of : ℕ → ℕ
byte_of character = if nat_lt character 256 then character else 63

abbrev pub blocks_of : List Response → List ℕ → List ℕ → List Block
blocks_of responses guid name = flat_map (λ r. r.blocks) (filter (λ r. is_of r guid name) responses)

abbrev pub given : Option (List ℕ) → ℕ → List Block → Given
given alias size blocks = given_by alias size blocks (find (leaves size) blocks)

-- the name of the first of the other responses with a GUID
abbrev pub other_name : List Response → List ℕ → Option (List ℕ)
other_name others guid = option_and_then (λ r. r.name) (find (λ r. bytes_eq r.guid guid) others)

-- A store takes the blocks of its own responses, else those of the first other name with its GUID.
abbrev pub given_to : Exported → List ℕ → List ℕ → ℕ → Option Given
given_to e guid name size =
    if has_some (blocks_of e.own guid name) then Some (given None size (blocks_of e.own guid name))
    else option_map (λ other. given (Some (map byte_of other)) size (blocks_of e.others guid other)) (other_name e.others guid)
