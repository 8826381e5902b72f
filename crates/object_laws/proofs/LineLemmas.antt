-- Lines of `split`, `stores` and `check` stay one line.
use Rattle.std.proofs.Common.{◌≡◌, ℕ, ◌^◌, ◌<◌, true, false, List, [], ◌∷◌, ◌++◌, length, map, decimal, codes, Option, Some, None, IfSome, refl}
use Rattle.std.specs.Str.{all_scalars}
use Rattle.std.proofs.lemmas.Bool.{cond_both}
use Rattle.browser_rules.specs.Opcodes.{number}
use Rattle.browser_rules.specs.Packages.{Package}
use Rattle.browser_rules.specs.Strings.{Spoken, shown, spoken_in}
use Rattle.hii_bytes.specs.Cause.{name_of, number_of}
use Rattle.hii_bytes.specs.Numbers.{AreBytes}
use Rattle.hii_bytes.specs.Texts.{cause_text, fault_text, place_text}
use Rattle.hii_bytes.specs.declared.cause.Cause.{Cause}
use Rattle.hii_bytes.specs.declared.cause.Fault.{Fault}
use Rattle.hii_dumps.specs.Dumps.{Entry}
use Rattle.hii_packages.specs.Packages.{packages_of}
use Rattle.ifr_opcodes.specs.Fields.{form_set_guid, form_set_title}
use Rattle.ifr_opcodes.specs.Forest.{Node}
use Rattle.ifr_opcodes.specs.Opcode.{number as number_of_opcode}
use Rattle.ifr_scopes.specs.Stores.{store_guid, store_id, store_name, store_size}
use Rattle.session_steps.specs.Texts.{refused_at_text, refused_text}
use Rattle.audit_text.specs.Stores.{store_attributes}
use Rattle.audit_text.specs.Texts.{digits_of, guid_text, hex_text, language_name, left_aligned, safe_text}
use Rattle.audit_text.specs.Words.{opcode_name}
use Rattle.dump_audit.specs.Contents.{begins_with_form_set, first_title, form_sets, forms_in, guid_word as guid_behind, opcodes_of}
use Rattle.dump_audit.specs.Findings.{Contents, Refused}
use Rattle.dump_audit.specs.Lines.{contents_text, head_text, line, no_list_text, rest_line, title_text}
use Rattle.opcode_audit.specs.Words.{name_or_number}
use Rattle.check_audit.specs.Behind.{seen_before}
use Rattle.check_audit.specs.Lines.{Setting, also_line, byte_line, form_set_words, good_line, head_line, mostly_line, named_line, opcode_line, text_of}
use Rattle.check_audit.specs.Mostly.{mostly_at}
use Rattle.check_audit.specs.Verdicts.{counts_of}
use Rattle.store_audit.specs.HeaderLines.{header_line, header_text, naming}
use Rattle.store_audit.specs.StoreLines.{size_text, store_line}
use Rattle.json_laws.proofs.ListLemmas.{some_of}
use Rattle.json_laws.proofs.ShownLemmas.{HaveBytes, shown_are_characters}
use Rattle.json_laws.proofs.WordLemmas.{Bytes, all_bytes, are_bytes, bytes_drop, bytes_word, decimal_word, guid_word, hexadecimal_word, opcode_word}
use Rattle.object_laws.specs.laws.Lines.{IsLine, IsSafe}
use Rattle.object_laws.proofs.BehindLemmas.{IsShown, SeenOne, are_shown}
use Rattle.object_laws.proofs.CheckLemmas.{mostly_word}
use Rattle.object_laws.proofs.OpcodeLemmas.{name_word}
use Rattle.object_laws.proofs.SafeLemmas.{each_safe, joined_safe, language_safe, left_safe, line_closed, line_safe, right_safe, safe_behind, safe_nothing, store_name_safe, text_safe, word_safe}
use Rattle.object_laws.proofs.ScriptLemmas.{cause_word, refused_word}
use Rattle.object_laws.proofs.SplitLemmas.{guid_bytes, packages_have_bytes, title_small}
use Rattle.object_laws.proofs.StoreLemmas.{attributes_are_word, guid_bytes_of, header_word, name_bytes_of}
use Rattle.object_laws.proofs.TextPieceLemmas.{place_word}

-- ---- pieces

pub decimal_safe : (n : ℕ) → IsSafe (decimal n)
decimal_safe n = word_safe (decimal n) (decimal_word n)

pub hex_safe : (n : ℕ) → IsSafe (hex_text n)
hex_safe n = word_safe (hex_text n) (hexadecimal_word n)

pub place_safe : (place : ℕ) → IsSafe (place_text place)
place_safe place = word_safe (place_text place) (place_word place)

pub guid_safe : (guid : List ℕ) → Bytes guid → IsSafe (guid_text true guid)
guid_safe guid all = word_safe (guid_text true guid) (guid_word true guid (are_bytes guid all))

pub fault_safe : (fault : Fault) → IsSafe (fault_text fault)
fault_safe fault = safe_behind (safe_behind (word_safe (cause_text fault.cause) (refused_word fault.cause)) (word_safe (codes " at ") refl)) (place_safe fault.place)

-- ---- refusals

pub refused_is_line : (cause : Cause) → IsLine (refused_text cause)
refused_is_line cause = line_safe (word_safe (cause_text cause) (refused_word cause))

pub refused_at_is_line : (fault : Fault) → IsLine (refused_at_text fault)
refused_at_is_line fault = line_safe (fault_safe fault)

-- ---- split

pub set_guid_safe : (p : Package) → Bytes p.bytes → IsSafe (guid_text true (form_set_guid (opcodes_of p)))
set_guid_safe p all = guid_safe (form_set_guid (opcodes_of p)) (guid_bytes (opcodes_of p) (bytes_drop 4 p.bytes all))

guid_behind_safe : (p : Package) → Bytes p.bytes → IsSafe (guid_behind p)
guid_behind_safe p all = safe_behind (word_safe (codes " ") refl) (set_guid_safe p all)

title_safe : (list : List ℕ) (ps : List Package) → AreBytes list → HaveBytes ps → IsSafe (title_text (spoken_in list) (first_title ps))
title_safe list [] are all = safe_nothing
title_safe list (p ∷ ps) are all =
    let id = form_set_title (opcodes_of p) in
    safe_behind (word_safe (codes " ") refl) (text_safe (shown (spoken_in list) (Some 0) id) (shown_are_characters list (Some 0) id are (title_small (opcodes_of p) (bytes_drop 4 p.bytes all.0))))

contents_safe : (list : List ℕ) → AreBytes list → IsSafe (contents_text (packages_of list) (spoken_in list))
contents_safe list are =
    let packages = packages_of list in
    let sets : HaveBytes (form_sets packages) = some_of (λ (p : Package). Bytes p.bytes) begins_with_form_set packages (packages_have_bytes list are) in
    safe_behind
    (safe_behind
    (safe_behind (safe_behind (safe_behind (word_safe (codes "forms ") refl) (decimal_safe (length (forms_in packages)))) (each_safe (λ (p : Package). Bytes p.bytes) guid_behind (form_sets packages) guid_behind_safe sets))
    (word_safe (codes " strings ") refl))
    (joined_safe (codes ",") language_name (map (λ s. s.language) (spoken_in list)) (word_safe (codes ",") refl) language_safe))
    (title_safe list (form_sets packages) are sets)

head_safe : (number : ℕ) (list : Entry) → IsSafe (head_text number list)
head_safe number list =
    safe_behind
    (safe_behind
    (safe_behind
    (safe_behind (safe_behind (safe_behind (word_safe (codes "LIST ") refl) (decimal_safe number)) (word_safe (codes " ") refl)) (place_safe list.place))
    (word_safe (codes " ") refl))
    (decimal_safe (length list.bytes)))
    (word_safe (codes " ") refl)

pub contents_line : (number : ℕ) (list : Entry) → AreBytes list.bytes
    → IsLine (line number record { entry = list; finding = Contents (packages_of list.bytes) (spoken_in list.bytes) })
contents_line number list are = line_safe (safe_behind (head_safe number list) (contents_safe list.bytes are))

pub list_fault_line : (number : ℕ) (list : Entry) (fault : Fault) → IsLine (line number record { entry = list; finding = Refused fault })
list_fault_line number list fault = line_safe (safe_behind (head_safe number list) (fault_safe fault))

pub rest_is_line : (place byte : ℕ) (bytes : List ℕ) → IsLine (rest_line place (byte ∷ bytes))
rest_is_line place byte bytes =
    line_safe
    (safe_behind (safe_behind (safe_behind (word_safe (codes "REST ") refl) (place_safe place)) (word_safe (codes " ") refl)) (decimal_safe (length (byte ∷ bytes))))

pub none_is_line : (number : ℕ) → IsLine (no_list_text number)
none_is_line number = line_safe (safe_behind (word_safe (codes "NO LIST ") refl) (decimal_safe number))

-- ---- stores

size_safe : (o : Option ℕ) → IsSafe (size_text o)
size_safe None = word_safe (codes "-") refl
size_safe (Some size) = decimal_safe size

pub store_is_line : (n : Node) → AreBytes n.op → IsLine (store_line n)
store_is_line n are =
    let space : IsSafe (codes " ") = word_safe (codes " ") refl in
    line_safe
    (safe_behind
    (safe_behind
    (safe_behind
    (safe_behind
    (safe_behind
    (safe_behind
    (safe_behind
    (safe_behind
    (safe_behind (safe_behind (right_safe 5 (decimal_safe (store_id n.op))) space) (left_safe 19 (word_safe (opcode_name (number_of_opcode n.op)) (opcode_word (number_of_opcode n.op)))))
    space)
    (right_safe 5 (size_safe (store_size n.op))))
    space)
    (left_safe 8 (word_safe (store_attributes n.op) (attributes_are_word n.op))))
    space)
    (guid_safe (store_guid n.op) (guid_bytes_of n.op (all_bytes n.op are))))
    space)
    (store_name_safe (store_name n.op)))

pub header_is_line : (path : List ℕ) (n : Node) → AreBytes path → AreBytes n.op → IsLine (header_line path n)
header_is_line path n path_are are =
    let all = all_bytes n.op are in
    line_safe (word_safe (header_text (naming path n)) (header_word (store_guid n.op) (store_name n.op) path (guid_bytes_of n.op all) (name_bytes_of n.op all) (all_bytes path path_are)))

-- ---- check

begun_safe : (word : List ℕ) → IsSafe word → IsSafe (left_aligned 9 word)
begun_safe word safe = left_safe 9 safe

pub byte_is_line : (byte : ℕ) → IsLine (byte_line byte)
byte_is_line byte = line_closed (codes " of the file") (safe_behind (begun_safe (codes "byte") (word_safe (codes "byte") refl)) (hex_safe byte)) (word_safe (codes " of the file") refl)

pub opcode_is_line : (op : List ℕ) → AreBytes op → IsLine (opcode_line op)
opcode_is_line op are =
    let first : number op < 256 = are 0 in
    line_safe
    (safe_behind
    (safe_behind (safe_behind (begun_safe (codes "opcode") (word_safe (codes "opcode") refl)) (word_safe (name_or_number (number op)) (name_word (number op) first))) (word_safe (codes " ") refl))
    (word_safe (digits_of false op) (bytes_word false op are)))

named_is_line : (s : Setting) (word : List ℕ) (o : SeenOne) → IsSafe word → IfSome o (λ n. IsShown s n.id n.text) → IfSome o (λ n. IsLine (named_line s word n))
named_is_line s word None safe is = tt
named_is_line s word (Some n) safe is =
    line_safe (safe_behind (safe_behind (safe_behind (begun_safe word safe) (decimal_safe n.id)) (word_safe (codes " ") refl)) (text_safe (text_of s.spoken n.text) is.1))

pub form_is_line : (s : Setting) (ifr : List ℕ) (place : ℕ) → AreBytes ifr → ((id : ℕ) → id < 2 ^ 64 → all_scalars (text_of s.spoken id) ≡ true)
    → IfSome (seen_before ifr place).form (λ n. IsLine (named_line s (codes "form") n))
form_is_line s ifr place are shows = named_is_line s (codes "form") (seen_before ifr place).form (word_safe (codes "form") refl) (are_shown s ifr place are shows).0

pub behind_is_line : (s : Setting) (ifr : List ℕ) (place : ℕ) → AreBytes ifr → ((id : ℕ) → id < 2 ^ 64 → all_scalars (text_of s.spoken id) ≡ true)
    → IfSome (seen_before ifr place).question (λ n. IsLine (named_line s (codes "behind") n))
behind_is_line s ifr place are shows = named_is_line s (codes "behind") (seen_before ifr place).question (word_safe (codes "behind") refl) (are_shown s ifr place are shows).1

pub mostly_is_line : (cause : Cause) (op : Option (List ℕ)) → IsLine (mostly_line (mostly_at cause op))
mostly_is_line cause op = line_safe (safe_behind (begun_safe (codes "mostly") (word_safe (codes "mostly") refl)) (word_safe (mostly_at cause op) (mostly_word cause op)))

pub also_is_line : (fault : Fault) (byte : ℕ) → IsLine (also_line fault byte)
also_is_line fault byte =
    line_closed (codes " of the file")
    (safe_behind
    (safe_behind
    (safe_behind
    (safe_behind
    (safe_behind
    (safe_behind (safe_behind (begun_safe (codes "also") (word_safe (codes "also") refl)) (decimal_safe (number_of fault.cause))) (word_safe (codes " ") refl))
    (word_safe (name_of fault.cause) (cause_word fault.cause)))
    (word_safe (codes " at ") refl))
    (place_safe fault.place))
    (word_safe (codes ", byte ") refl))
    (hex_safe byte))
    (word_safe (codes " of the file") refl)

pub set_safe : (spoken : List Spoken) (p : Package) → AreBytes p.bytes → ((id : ℕ) → id < 2 ^ 64 → all_scalars (text_of spoken id) ≡ true) → IsSafe (form_set_words spoken p)
set_safe spoken p are shows =
    let op = opcodes_of p in
    let all = all_bytes p.bytes are in
    let title = text_of spoken (form_set_title op) in
    cond_both (begins_with_form_set p) (guid_text true (form_set_guid op) ++ codes " " ++ safe_text title) (codes "-") IsSafe
    (λ _. safe_behind (safe_behind (set_guid_safe p all) (word_safe (codes " ") refl)) (text_safe title (shows (form_set_title op) (title_small op (bytes_drop 4 p.bytes all)))))
    (λ _. word_safe (codes "-") refl)

pub head_is_line : (s : Setting) (n : ℕ) (p : Package) → AreBytes p.bytes → ((id : ℕ) → id < 2 ^ 64 → all_scalars (text_of s.spoken id) ≡ true) → IsLine (head_line s n p)
head_is_line s n p are shows = line_safe (safe_behind (safe_behind (safe_behind (word_safe (codes "FORMS ") refl) (decimal_safe n)) (word_safe (codes " ") refl)) (set_safe s.spoken p are shows))

pub good_is_line : (ifr : List ℕ) → IsLine (good_line (counts_of ifr))
good_is_line ifr =
    let counts = counts_of ifr in
    line_closed (codes " stores")
    (safe_behind
    (safe_behind (safe_behind (safe_behind (safe_behind (word_safe (codes "GOOD ") refl) (decimal_safe counts.forms)) (word_safe (codes " forms, ") refl)) (decimal_safe counts.questions)) (word_safe (codes " questions, ") refl))
    (decimal_safe counts.stores))
    (word_safe (codes " stores") refl)
