-- Objects of `stores` and `image` tell facts.
use Rattle.std.proofs.Common.{◌≡◌, ◌==◌, ℕ, ◌/◌, ◌%◌, ◌^◌, ◌<◌, Bool, true, false, cond, nat_le, ◌&&◌, List, [], ◌∷◌, ◌++◌, length, map, drop, Option, Some, None, IfSome, option_map, decimal, codes, refl, arith}
use Rattle.std.specs.List.{before_first, flat_map, position_or_len}
use Rattle.std.specs.Prelude.{string_bytes, chars}
use Rattle.std.specs.Str.{all_scalars}
use Rattle.std.proofs.lemmas.Bool.{and_from, and_parts, cond_both, leb-true}
use Rattle.std.proofs.lemmas.Str.{IsUtf8-string_bytes, scalars-chars}
use lib.Utf8.{low_scalar}
use Rattle.hii_bytes.specs.Numbers.{AreBytes}
use Rattle.hii_bytes.specs.Texts.{hex_of}
use Rattle.hii_bytes.proofs.NumberLemmas.{number_in-lt}
use Rattle.browser_rules.specs.Configuration.{four_digits}
use Rattle.ifr_opcodes.specs.Fields.{name_value_guid, name_value_id, varstore_efi_attributes, varstore_efi_guid, varstore_efi_id, varstore_efi_name, varstore_efi_size, varstore_guid, varstore_id, varstore_name, varstore_size}
use Rattle.ifr_opcodes.specs.Forest.{Node}
use Rattle.ifr_opcodes.specs.Opcode.{number}
use Rattle.ifr_opcodes.specs.declared.codes.TheConstants.{VARSTORE, VARSTORE_EFI}
use Rattle.ifr_scopes.specs.Stores.{store_guid, store_id, store_name, store_size}
use Rattle.laid_defaults.specs.Laying.{Laid}
use Rattle.audit_text.specs.Stores.{store_attributes}
use Rattle.audit_text.specs.Texts.{ascii_name, guid_text, shown_byte}
use Rattle.audit_text.specs.Words.{attributes_text, opcode_name}
use Rattle.audit_json.specs.Objects.{text_member}
use Rattle.store_audit.specs.Defaulted.{count_object}
use Rattle.store_audit.specs.Fillings.{alias_member, count_from, file_word, filled_object, reason, refused_object, refused_string, source_members, wanted_of}
use Rattle.store_audit.specs.HeaderLines.{header_object, header_text, naming}
use Rattle.store_audit.specs.StoreLines.{attributes_member, size_member, store_object}
use Rattle.store_audit.specs.declared.fillings.Source.{Source}
use Rattle.store_audit.specs.declared.fillings.Source.TheVariants.{File, Config, Zeros, Missing}
use Rattle.json_laws.specs.laws.Telling.{IsReadBack, TellsFacts, TellsValue}
use Rattle.json_laws.specs.laws.Written.{IsWord}
use Rattle.json_laws.proofs.TellingLemmas.{read_back, tells_behind, tells_member, tells_nothing, spells_behind, spells_text, spells_word, tells_spelled, tells_text, tells_word}
use Rattle.json_laws.proofs.WordLemmas.{Bytes, all_bytes, are_bytes, attributes_word, bytes_are_text, bytes_drop, bytes_take, bytes_word, decimal_word, guid_word, opcode_word, word_behind}
use Rattle.object_laws.specs.laws.Stores.{HasAlias}
use Rattle.object_laws.proofs.CheckLemmas.{number_member_told}

-- ---- what the opcode of a store says

small_field : (n : ℕ) → n < 256 ^ 2 → n < 2 ^ 64
small_field n small = omega arith

id_small : (op : List ℕ) → AreBytes op → store_id op < 2 ^ 64
id_small op are =
    cond_both (number op == VARSTORE) (varstore_id op) (cond (number op == VARSTORE_EFI) (varstore_efi_id op) (name_value_id op)) (λ n. n < 2 ^ 64)
    (λ _. small_field (varstore_id op) (number_in-lt op _ 2 are))
    (λ _. cond_both (number op == VARSTORE_EFI) (varstore_efi_id op) (name_value_id op) (λ n. n < 2 ^ 64) (λ _. small_field (varstore_efi_id op) (number_in-lt op _ 2 are))
    (λ _. small_field (name_value_id op) (number_in-lt op _ 2 are)))

size_small : (op : List ℕ) → AreBytes op → IfSome (store_size op) (λ n. n < 2 ^ 64)
size_small op are =
    cond_both (number op == VARSTORE) (Some (varstore_size op)) (cond (number op == VARSTORE_EFI) (Some (varstore_efi_size op)) None) (λ o. IfSome o (λ n. n < 2 ^ 64))
    (λ _. small_field (varstore_size op) (number_in-lt op _ 2 are))
    (λ _. cond_both (number op == VARSTORE_EFI) (Some (varstore_efi_size op)) None (λ o. IfSome o (λ n. n < 2 ^ 64)) (λ _. small_field (varstore_efi_size op) (number_in-lt op _ 2 are)) (λ _. tt))

pub guid_bytes_of : (op : List ℕ) → Bytes op → Bytes (store_guid op)
guid_bytes_of op all =
    cond_both (number op == VARSTORE) (varstore_guid op) (cond (number op == VARSTORE_EFI) (varstore_efi_guid op) (name_value_guid op)) Bytes (λ _. bytes_take 16 (drop 2 op) (bytes_drop 2 op all))
    (λ _. cond_both (number op == VARSTORE_EFI) (varstore_efi_guid op) (name_value_guid op) Bytes (λ _. bytes_take 16 (drop 4 op) (bytes_drop 4 op all)) (λ _. bytes_take 16 (drop 4 op) (bytes_drop 4 op all)))

up_to_nul : (bytes : List ℕ) → Bytes bytes → Bytes (before_first (λ byte. byte == 0) bytes)
up_to_nul bytes all = bytes_take (position_or_len (λ byte. byte == 0) bytes) bytes all

pub name_bytes_of : (op : List ℕ) → Bytes op → Bytes (store_name op)
name_bytes_of op all =
    cond_both (number op == VARSTORE) (varstore_name op) (cond (number op == VARSTORE_EFI) (varstore_efi_name op) []) Bytes (λ _. up_to_nul (drop 22 op) (bytes_drop 22 op all))
    (λ _. cond_both (number op == VARSTORE_EFI) (varstore_efi_name op) [] Bytes (λ _. up_to_nul (drop 26 op) (bytes_drop 26 op all)) (λ _. tt))

pub attributes_are_word : (op : List ℕ) → IsWord (store_attributes op)
attributes_are_word op =
    cond_both (number op == VARSTORE_EFI) (attributes_text (varstore_efi_attributes op)) (codes "-") IsWord (λ _. attributes_word (varstore_efi_attributes op)) (λ _. refl)

-- ---- stores

size_told : (o : Option ℕ) → IfSome o (λ n. n < 2 ^ 64) → TellsFacts (size_member o)
size_told None small = tells_nothing
size_told (Some size) small = number_member_told (codes "size") size refl small

attributes_told : (words : List ℕ) → IsWord words → TellsFacts (attributes_member words)
attributes_told words plain = cond_both (length words == 1) [] _ TellsFacts (λ _. tells_nothing) (λ _. tells_member (codes "attributes") refl (tells_word words plain))

name_told : (op : List ℕ) → Bytes op → TellsFacts (text_member (codes "name") (store_name op))
name_told op all = tells_member (codes "name") refl (tells_text (store_name op) (bytes_are_text (store_name op) (are_bytes (store_name op) (name_bytes_of op all))))

pub store_back : (n : Node) → n.place < 2 ^ 64 → AreBytes n.op → IsReadBack (codes "store") (store_object n)
store_back n place are =
    let all = all_bytes n.op are in
    read_back (codes "store") refl
    (tells_behind
    (tells_behind
    (tells_behind
    (tells_behind
    (tells_behind (tells_behind (number_member_told (codes "id") (store_id n.op) refl (id_small n.op are)) (tells_member (codes "opcode") refl (tells_word (opcode_name (number n.op)) (opcode_word (number n.op)))))
    (number_member_told (codes "at") n.place refl place))
    (size_told (store_size n.op) (size_small n.op are)))
    (attributes_told (store_attributes n.op) (attributes_are_word n.op)))
    (tells_member (codes "guid") refl (tells_word (guid_text true (store_guid n.op)) (guid_word true (store_guid n.op) (are_bytes (store_guid n.op) (guid_bytes_of n.op all))))))
    (name_told n.op all))

-- ---- headers

hex_word : (bytes : List ℕ) → Bytes bytes → IsWord (flat_map hex_of bytes)
hex_word [] all = refl
hex_word (b ∷ bytes) all = word_behind (hex_of b) (flat_map hex_of bytes) (bytes_word false (b ∷ []) (are_bytes (b ∷ []) (all.0, tt))) (hex_word bytes all.1)

names_word : (bytes : List ℕ) → Bytes bytes → IsWord (flat_map four_digits bytes)
names_word [] all = refl
names_word (b ∷ bytes) all =
    let small : b < 256 = all.0 in
    word_behind (four_digits b) (flat_map four_digits bytes) (bytes_word false (b / 256 ∷ b % 256 ∷ []) (are_bytes (b / 256 ∷ b % 256 ∷ []) (omega arith, (omega arith, tt)))) (names_word bytes all.1)

pub header_word : (guid name path : List ℕ) → Bytes guid → Bytes name → Bytes path
    → IsWord (codes "GUID=" ++ flat_map hex_of guid ++ codes "&NAME=" ++ flat_map four_digits name ++ codes "&PATH=" ++ flat_map hex_of path ++ [])
header_word guid name path g n p =
    let one = word_behind (codes "GUID=") (flat_map hex_of guid) refl (hex_word guid g) in
    let two = word_behind (codes "GUID=" ++ flat_map hex_of guid ++ codes "&NAME=") (flat_map four_digits name) (word_behind (codes "GUID=" ++ flat_map hex_of guid) (codes "&NAME=") one refl) (names_word name n) in
    let three = codes "GUID=" ++ flat_map hex_of guid ++ codes "&NAME=" ++ flat_map four_digits name ++ codes "&PATH=" in
    word_behind (three ++ flat_map hex_of path) []
    (word_behind three (flat_map hex_of path) (word_behind (codes "GUID=" ++ flat_map hex_of guid ++ codes "&NAME=" ++ flat_map four_digits name) (codes "&PATH=") two refl) (hex_word path p)) refl

pub header_back : (path : List ℕ) (n : Node) → AreBytes path → AreBytes n.op → IsReadBack (codes "header") (header_object path n)
header_back path n path_are are =
    let all = all_bytes n.op are in
    read_back (codes "header") refl
    (tells_behind (number_member_told (codes "id") (store_id n.op) refl (id_small n.op are))
    (tells_member (codes "header") refl (tells_word (header_text (naming path n)) (header_word (store_guid n.op) (store_name n.op) path (guid_bytes_of n.op all) (name_bytes_of n.op all) (all_bytes path path_are)))))

-- ---- what stores are filled with

alias_told : {X : Type 0} (o : Option X) (bytes_of : X → List ℕ) → IfSome o (λ x. AreBytes (bytes_of x)) → TellsFacts (alias_member (option_map bytes_of o))
alias_told None bytes_of are = tells_nothing
alias_told (Some name) bytes_of are = tells_member (codes "alias") refl (tells_text (bytes_of name) (bytes_are_text (bytes_of name) are))

file_is_word : (is_variable : Bool) → IsWord (file_word is_variable)
file_is_word true = refl
file_is_word false = refl

source_told : (source : Source) → HasAlias source → TellsFacts (source_members source)
source_told (File path bytes is_variable) alias =
    tells_behind (tells_member (codes "source") refl (tells_word (file_word is_variable) (file_is_word is_variable)))
    (tells_member (codes "path") refl (tells_text (chars (string_bytes path)) (scalars-chars (string_bytes path) (IsUtf8-string_bytes path))))
source_told (Config given) alias =
    tells_behind (tells_member (codes "source") refl (tells_word (codes "config") refl)) (alias_told given.alias (λ name. name.items) alias)
source_told Zeros alias = tells_member (codes "source") refl (tells_word (codes "zeros") refl)
source_told Missing alias = tells_nothing

counts_word : (one other : ℕ) → IsWord (codes ": " ++ decimal one ++ codes " bytes given, " ++ decimal other ++ codes " wanted")
counts_word one other =
    word_behind (codes ": " ++ decimal one ++ codes " bytes given, " ++ decimal other) (codes " wanted")
    (word_behind (codes ": " ++ decimal one ++ codes " bytes given, ") (decimal other)
    (word_behind (codes ": " ++ decimal one) (codes " bytes given, ") (word_behind (codes ": ") (decimal one) refl (decimal_word one)) refl) (decimal_word other)) refl

pub reason_word : (n : Node) (source : Source) → IsWord (reason n source)
reason_word n Missing = refl
reason_word n source = counts_word (count_from (wanted_of n) source) (wanted_of n)

pub byte_shown : (b : ℕ) → shown_byte b < 128
byte_shown b = cond_both (nat_le 0x20 b && nat_le b 0x7E) b 63 (λ n. n < 128) (λ e. omega (arith, leb-true b 0x7E (and_parts (nat_le 0x20 b) (nat_le b 0x7E) e).1)) (λ _. omega arith)

bytes_shown : (name : List ℕ) → all_scalars (map shown_byte name) ≡ true
bytes_shown [] = refl
bytes_shown (b ∷ name) = and_from _ _ (low_scalar (shown_byte b) (omega (arith, byte_shown b))) (bytes_shown name)

pub name_is_text : (name : List ℕ) → all_scalars (ascii_name name) ≡ true
name_is_text [] = refl
name_is_text (b ∷ name) = bytes_shown (b ∷ name)

pub filled_back : (n : Node) (source : Source) → AreBytes n.op → count_from (wanted_of n) source < 2 ^ 64 → HasAlias source → IsReadBack (codes "store") (filled_object n source)
filled_back n source are small alias =
    read_back (codes "store") refl
    (tells_behind
    (tells_behind (tells_behind (number_member_told (codes "id") (store_id n.op) refl (id_small n.op are)) (name_told n.op (all_bytes n.op are)))
    (number_member_told (codes "size") (count_from (wanted_of n) source) refl small))
    (source_told source alias))

pub refused_told : (n : Node) (source : Source) → TellsValue (refused_string n source)
refused_told n source =
    let front = codes "store " ++ decimal (store_id n.op) ++ codes " " in
    let plain : IsWord front = word_behind (codes "store " ++ decimal (store_id n.op)) (codes " ") (word_behind (codes "store ") (decimal (store_id n.op)) refl (decimal_word (store_id n.op))) refl in
    tells_spelled (spells_behind (spells_behind (spells_word front plain) (spells_text (ascii_name (store_name n.op)) (name_is_text (store_name n.op)))) (spells_word (reason n source) (reason_word n source)))

pub refused_back : (n : Node) (source : Source) → IsReadBack (codes "error") (refused_object n source)
refused_back n source = read_back (codes "error") refl (tells_member (codes "text") refl (refused_told n source))

pub count_back : (laid : Laid) (class : ℕ) → laid.count < 2 ^ 64 → class < 2 ^ 64 → IsReadBack (codes "defaults") (count_object laid class)
count_back laid class count small =
    read_back (codes "defaults") refl (tells_behind (number_member_told (codes "count") laid.count refl count) (number_member_told (codes "class") class refl small))
