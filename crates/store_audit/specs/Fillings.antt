-- The stores of a form set that hold bytes, and what they are filled with (own rule).
use Rattle.std.specs.Prelude.{ℕ, ◌==◌, ◌&&◌, Bool, true, false, List, [], ◌++◌, Option, Some, None, option_map, filter, is_some, length, replicate, unwrap_or, chars, codes, decimal, string_bytes}
use Rattle.ifr_opcodes.specs.Forest.{Node}
use Rattle.ifr_nodes.specs.Nodes.{is_store}
use Rattle.ifr_scopes.specs.Stores.{store_id, store_name, store_size}
use Rattle.audit_text.specs.Texts.{ascii_name, safe_text}
use Rattle.audit_json.specs.Json.{escaped}
use Rattle.audit_json.specs.Objects.{member, number_member, object, quoted, text_member, word_member}
use Rattle.audit_json.specs.Telling.{told_as}
use Rattle.audit_json.specs.declared.telling.Telling.{Telling}
use Rattle.hii_varstore.specs.Stores.{Store}
use Rattle.exported_config.specs.declared.giving.Given.{Given}
use Rattle.store_audit.specs.declared.fillings.Source.{Source}
use Rattle.store_audit.specs.declared.fillings.Source.TheVariants.{File, Config, Zeros, Missing}

-- a store of names and values holds no bytes (UEFI 2.8, 33.3.8.3, EFI_IFR_VARSTORE_NAME_VALUE)
abbrev pub has_bytes : Node → Bool
has_bytes n = is_some (store_size n.op)

-- the stores that hold bytes, by place
abbrev pub buffer_stores : List Node → List Node
buffer_stores ns = filter has_bytes (filter is_store ns)

-- how many bytes a store holds
abbrev pub wanted_of : Node → ℕ
wanted_of n = unwrap_or (store_size n.op) 0

-- the bytes that a source gives to a store that holds so many
abbrev pub bytes_from : ℕ → Source → List ℕ
bytes_from size (File path bytes is_variable) = bytes.items
bytes_from size (Config given) = given.bytes.items
bytes_from size Zeros = replicate size 0
bytes_from size Missing = []

-- how many bytes a source gives: where a block of a text leaves the store, its end
abbrev pub count_from : ℕ → Source → ℕ
count_from size (File path bytes is_variable) = length bytes.items
count_from size (Config given) = given.count
count_from size Zeros = size
count_from size Missing = 0

abbrev pub is_whole : ℕ → Given → Bool
is_whole size given = given.count == size && length given.bytes.items == size

-- Bytes are given, and as many as the store holds.
abbrev pub are_fit : ℕ → Source → Bool
are_fit size (File path bytes is_variable) = length bytes.items == size
are_fit size (Config given) = is_whole size given
are_fit size Zeros = true
are_fit size Missing = false

-- the bytes that a store is given
abbrev pub bytes_given : Node → Source → List ℕ
bytes_given n source = bytes_from (wanted_of n) source

-- a store that holds what it is given
abbrev pub store_from : Node → Source → Store
store_from n source = record { id = store_id n.op; bytes = bytes_given n source }

-- ---- lines

-- the id and the name of a store
abbrev pub names_text : Node → List ℕ
names_text n = decimal (store_id n.op) ++ codes " " ++ ascii_name (store_name n.op)

-- bytes that come from a text, with the name under which they stand there, where it is another one
abbrev pub alias_text : Option (List ℕ) → List ℕ
alias_text None = []
alias_text (Some name) = codes ", where its name is " ++ ascii_name name

abbrev pub config_text : Given → List ℕ
config_text given = codes "config" ++ alias_text (option_map (λ name. name.items) given.alias)

-- a path stands in a line as other texts do
abbrev pub source_text : Source → List ℕ
source_text (File path bytes is_variable) = safe_text (chars (string_bytes path))
source_text (Config given) = config_text given
source_text Zeros = codes "zeros"
source_text Missing = codes "-"

-- the line of a store that is filled
abbrev pub filled_line : Node → Source → List ℕ
filled_line n source =
    codes "STORE " ++ names_text n ++ codes " " ++ decimal (count_from (wanted_of n) source)
    ++ codes " " ++ source_text source ++ codes "\n"

-- how many bytes a store is given, and how many it holds
abbrev pub counts_text : Node → Source → List ℕ
counts_text n source =
    codes ": " ++ decimal (count_from (wanted_of n) source) ++ codes " bytes given, "
    ++ decimal (wanted_of n) ++ codes " wanted"

-- why a store is not filled
abbrev pub reason : Node → Source → List ℕ
reason n Missing = codes ": no bytes given"
reason n source = counts_text n source

-- the line of a store that is not filled
abbrev pub refused_line : Node → Source → List ℕ
refused_line n source = codes "store " ++ names_text n ++ reason n source ++ codes "\n"

-- ---- objects

abbrev pub alias_member : Option (List ℕ) → List ℕ
alias_member None = []
alias_member (Some name) = text_member (codes "alias") name

abbrev pub file_word : Bool → List ℕ
file_word true = codes "variable"
file_word false = codes "file"

abbrev pub file_members : List ℕ → Bool → List ℕ
file_members path is_variable =
    word_member (codes "source") (file_word is_variable) ++ text_member (codes "path") path

abbrev pub config_members : Given → List ℕ
config_members given =
    word_member (codes "source") (codes "config")
    ++ alias_member (option_map (λ name. name.items) given.alias)

abbrev pub source_members : Source → List ℕ
source_members (File path bytes is_variable) = file_members (chars (string_bytes path)) is_variable
source_members (Config given) = config_members given
source_members Zeros = word_member (codes "source") (codes "zeros")
source_members Missing = []

abbrev pub filled_members : Node → Source → List ℕ
filled_members n source =
    number_member (codes "id") (store_id n.op) ++ text_member (codes "name") (store_name n.op)
    ++ number_member (codes "size") (count_from (wanted_of n) source) ++ source_members source

abbrev pub filled_object : Node → Source → List ℕ
filled_object n source = object (codes "store") (filled_members n source)

-- the line of a store that is not filled, as a string
abbrev pub refused_string : Node → Source → List ℕ
refused_string n source =
    quoted (codes "store " ++ decimal (store_id n.op) ++ codes " "
    ++ escaped (ascii_name (store_name n.op)) ++ reason n source)

abbrev pub refused_object : Node → Source → List ℕ
refused_object n source =
    object (codes "error") (member (codes "text") (refused_string n source))

-- ---- both

abbrev pub filled_told : Telling → Node → Source → List ℕ
filled_told telling n source = told_as telling (filled_line n source) (filled_object n source)

abbrev pub unfit_told : Telling → Node → Source → List ℕ
unfit_told telling n source = told_as telling (refused_line n source) (refused_object n source)
