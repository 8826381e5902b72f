-- What a configuration text names in a form set (UEFI 2.8, 34.2.1 String Grammar; which stores and questions a text names is an
-- own rule).
use Rattle.std.specs.Prelude.{ℕ, ◌+◌, ◌&&◌, nat_lt, Bool, List, [], ◌∷◌, filter, Option, Some, None, option_map, is_some, is_none}
use Rattle.std.specs.List.{find}
use Rattle.std.specs.Option.{option_or}
use Rattle.std.specs.Str.{bytes_eq}
use Rattle.std.specs.Str.Parse.{digits_value}
use Rattle.byteorder.specs.Endian.{little_bytes}
use Rattle.browser_rules.specs.Configuration.{Header, Block}
use Rattle.ifr_opcodes.specs.Forest.{Node}
use Rattle.ifr_nodes.specs.Nodes.{is_store}
use Rattle.ifr_scopes.specs.Stores.{store_guid, store_id, store_name, store_size}
use Rattle.hii_questions.specs.Fields.{Field, Asked, questions, has_field, is_password_in}
use Rattle.guard_policy.specs.Policy.{fixed}
use Rattle.guard_policy.specs.World.{World}

-- ---- stores

-- A header names a store of bytes by its GUID and its name, each byte of it a character, and by the list's device path.
abbrev pub names_store : Header → List ℕ → Node → Bool
names_store named path n =
    is_some (store_size n.op)
    && (bytes_eq named.guid (store_guid n.op)
    && (bytes_eq named.name (store_name n.op) && bytes_eq named.path path))

-- the id of the first store by place that a header names
abbrev pub store_named : List Node → List ℕ → Header → Option ℕ
store_named ns path named =
    option_map (λ n. store_id n.op) (find (names_store named path) (filter is_store ns))

-- ---- blocks

-- the bytes of a store that a block names
abbrev pub block_field : ℕ → Block → Field
block_field store block = record { store = store; offset = block.offset; width = block.width }

-- A block leaves a store of so many bytes.
abbrev pub leaves_store : ℕ → Block → Bool
leaves_store size block = nat_lt size (block.offset + block.width)

-- the first password by place whose field a block meets
abbrev pub password_in : List Node → Field → Option Asked
password_in ns field = find (is_password_in field) (questions ns)

-- the bytes of a block's value, the lowest first
abbrev pub block_bytes : Block → List ℕ
block_bytes block = little_bytes block.width (digits_value 16 block.digits)

-- the first of some questions
abbrev pub first_question : List Asked → Option Node
first_question [] = None
first_question (q ∷ qs) = Some q.node

-- the first of some questions that is not fixed
abbrev pub first_free : World → List Asked → Option Node
first_free w qs = option_map (λ q. q.node) (find (λ q. is_none (fixed w q.node)) qs)

-- the question that a block sets: of those that have exactly its field the first by place that is not fixed, or where all are
-- fixed the first
abbrev pub question_of_field : World → List Node → Field → Option Node
question_of_field w ns field =
    option_or (first_free w (filter (has_field field) (questions ns)))
    (first_question (filter (has_field field) (questions ns)))
