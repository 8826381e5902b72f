-- Objects of `split` tell facts.
use Rattle.std.proofs.Common.{◌≡◌, ◌==◌, ◌||◌, ℕ, zero, suc, ◌+◌, ◌^◌, ◌<◌, ◌≤◌, Bool, true, List, [], ◌∷◌, ◌++◌, length, map, take, drop, Some, decimal, codes, refl, arith}
use Rattle.std.specs.List.{AllByRecursion, filter}
use Rattle.std.specs.Str.{all_scalars}
use Rattle.std.proofs.lemmas.Bool.{cond_both}
use Rattle.browser_rules.specs.Packages.{END_PACKAGE, FORMS, Package, is_bad, list_length, package_length, package_type, packages_from}
use Rattle.browser_rules.specs.Strings.{Spoken, shown, spoken_in}
use Rattle.hii_bytes.specs.Numbers.{AreBytes}
use Rattle.hii_bytes.specs.declared.cause.Fault.{Fault}
use Rattle.hii_bytes.proofs.NumberLemmas.{number_in-lt}
use Rattle.hii_dumps.specs.Dumps.{Entry}
use Rattle.hii_packages.specs.Packages.{packages_of}
use Rattle.ifr_opcodes.specs.Fields.{form_set_guid, form_set_title}
use Rattle.audit_text.specs.Texts.{guid_text}
use Rattle.audit_json.specs.Json.{json_text}
use Rattle.dump_audit.specs.Contents.{begins_with_form_set, first_title, form_sets, forms_in, opcodes_of}
use Rattle.dump_audit.specs.Findings.{Contents, Refused}
use Rattle.dump_audit.specs.Objects.{contents_members, guid_value, head_members, list_object, no_list_object, rest_object, title_member}
use Rattle.json_laws.specs.laws.Telling.{IsReadBack, TellsFacts, TellsValue, TellValues}
use Rattle.json_laws.proofs.ListLemmas.{some_of}
use Rattle.json_laws.proofs.ShownLemmas.{HaveBytes, languages_are_characters, packages_bytes, shown_are_characters}
use Rattle.json_laws.proofs.TellingLemmas.{read_back, tell_more, tell_none, tells_array_member, tells_behind, tells_fault, tells_member, tells_nothing, tells_number, tells_text, tells_word}
use Rattle.json_laws.proofs.WordLemmas.{Bytes, all_bytes, are_bytes, bytes_drop, bytes_take, decimal_word, guid_word, word_behind}

-- ---- how many there are

packages_few : (n at : ℕ) (bytes : List ℕ) → length (packages_from n at bytes) ≤ n
unfolding packages_from
packages_few zero at bytes = omega arith
packages_few (suc n) at bytes =
    let size = package_length bytes in
    cond_both (is_bad bytes || package_type bytes == END_PACKAGE) []
    (record { place = at; kind = package_type bytes; bytes = take size bytes } ∷ packages_from n (at + size) (drop size bytes))
    (λ l. length l ≤ suc n) (λ _. omega arith) (λ _. omega (arith, packages_few n (at + size) (drop size bytes)))

fewer : (test : Package → Bool) (ps : List Package) → length (filter test ps) ≤ length ps
fewer test [] = omega arith
fewer test (p ∷ ps) =
    cond_both (test p) (p ∷ filter test ps) (filter test ps) (λ l. length l ≤ suc (length ps)) (λ _. omega (arith, fewer test ps)) (λ _. omega (arith, fewer test ps))

packages_of_few : (list : List ℕ) → length (packages_of list) ≤ length list
packages_of_few list = packages_few (length list) 20 (drop 20 (take (list_length list) list))

pub packages_have_bytes : (list : List ℕ) → AreBytes list → HaveBytes (packages_of list)
packages_have_bytes list are =
    let whole = take (list_length list) list in
    packages_bytes (length list) 20 (drop 20 whole) (bytes_drop 20 whole (bytes_take (list_length list) list (all_bytes list are)))

-- ---- what they are

pub guid_bytes : (op : List ℕ) → Bytes op → Bytes (form_set_guid op)
guid_bytes op all = bytes_take 16 (drop 2 op) (bytes_drop 2 op all)

pub title_small : (op : List ℕ) → Bytes op → form_set_title op < 2 ^ 64
title_small op all = let small : form_set_title op < 65536 = number_in-lt op 18 2 (are_bytes op all) in omega arith

guid_told : (p : Package) → Bytes p.bytes → TellsValue (guid_value p)
guid_told p all =
    let guid = form_set_guid (opcodes_of p) in
    tells_word (guid_text true guid) (guid_word true guid (are_bytes guid (guid_bytes (opcodes_of p) (bytes_drop 4 p.bytes all))))

guids_told : (ps : List Package) → HaveBytes ps → TellValues (map guid_value ps)
guids_told [] all = tell_none
guids_told (p ∷ ps) all = tell_more (guid_told p all.0) (guids_told ps all.1)

languages_told : (spoken : List Spoken) → AllByRecursion (λ s. all_scalars s.language ≡ true) spoken → TellValues (map json_text (map (λ s. s.language) spoken))
languages_told [] all = tell_none
languages_told (s ∷ spoken) all = tell_more (tells_text s.language all.0) (languages_told spoken all.1)

title_told : (list : List ℕ) (ps : List Package) → AreBytes list → HaveBytes ps → TellsFacts (title_member (spoken_in list) (first_title ps))
title_told list [] are all = tells_nothing
title_told list (p ∷ ps) are all =
    let id = form_set_title (opcodes_of p) in
    tells_member (codes "title") refl
    (tells_text (shown (spoken_in list) (Some 0) id) (shown_are_characters list (Some 0) id are (title_small (opcodes_of p) (bytes_drop 4 p.bytes all.0))))

contents_told : (list : List ℕ) → AreBytes list → length list < 2 ^ 64 → TellsFacts (contents_members (packages_of list) (spoken_in list))
contents_told list are small =
    let packages = packages_of list in
    let all : HaveBytes packages = packages_have_bytes list are in
    let sets : HaveBytes (form_sets packages) = some_of (λ (p : Package). Bytes p.bytes) begins_with_form_set packages all in
    let few : length (forms_in packages) < 2 ^ 64 = omega (arith, fewer (λ p. p.kind == FORMS) packages, packages_of_few list) in
    tells_behind
    (tells_behind (tells_behind (tells_member (codes "forms") refl (tells_number (length (forms_in packages)) few)) (tells_array_member (codes "guids") refl (guids_told (form_sets packages) sets)))
    (tells_array_member (codes "languages") refl (languages_told (spoken_in list) (languages_are_characters list))))
    (title_told list (form_sets packages) are sets)

head_told : (number : ℕ) (list : Entry) → number < 2 ^ 64 → list.place < 2 ^ 64 → length list.bytes < 2 ^ 64 → TellsFacts (head_members number list)
head_told number list small place size =
    tells_behind (tells_behind (tells_member (codes "number") refl (tells_number number small)) (tells_member (codes "at") refl (tells_number list.place place)))
    (tells_member (codes "size") refl (tells_number (length list.bytes) size))

-- ---- objects

pub contents_back : (number : ℕ) (list : Entry) → number < 2 ^ 64 → list.place < 2 ^ 64 → length list.bytes < 2 ^ 64 → AreBytes list.bytes
    → IsReadBack (codes "list") (list_object number list (Contents (packages_of list.bytes) (spoken_in list.bytes)))
contents_back number list small place size are =
    read_back (codes "list") refl (tells_behind (head_told number list small place size) (contents_told list.bytes are size))

pub fault_back : (number : ℕ) (list : Entry) (fault : Fault) → number < 2 ^ 64 → list.place < 2 ^ 64 → length list.bytes < 2 ^ 64 → fault.place < 2 ^ 64
    → IsReadBack (codes "list") (list_object number list (Refused fault))
fault_back number list fault small place size at =
    read_back (codes "list") refl (tells_behind (head_told number list small place size) (tells_fault (codes "fault") fault refl at))

pub rest_back : (place byte : ℕ) (bytes : List ℕ) → place < 2 ^ 64 → length (byte ∷ bytes) < 2 ^ 64 → IsReadBack (codes "rest") (rest_object place (byte ∷ bytes))
rest_back place byte bytes small size =
    read_back (codes "rest") refl
    (tells_behind (tells_member (codes "at") refl (tells_number place small)) (tells_member (codes "size") refl (tells_number (length (byte ∷ bytes)) size)))

pub none_back : (number : ℕ) → IsReadBack (codes "error") (no_list_object number)
none_back number = read_back (codes "error") refl (tells_member (codes "text") refl (tells_word (codes "NO LIST " ++ decimal number) (word_behind (codes "NO LIST ") (decimal number) refl (decimal_word number))))
