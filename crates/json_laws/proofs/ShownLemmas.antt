-- What is shown of string ids is characters.
use Rattle.std.proofs.Common.{◌≡◌, ◌==◌, ◌&&◌, ◌||◌, ℕ, zero, suc, ◌+◌, ◌-◌, ◌^◌, ◌<◌, nat_lt, Bool, true, false, cond, List, [], ◌∷◌, ◌++◌, length, map, take, drop, slice_get, slice_index, replicate, Option, Some, None, IfSome, option_map, option_and_then, unwrap_or, Ok, Err, Result, IfOk, decimal, refl, arith}
use Rattle.std.specs.Bool.{⊤}
use Rattle.std.specs.List.{AllByRecursion}
use Rattle.std.specs.Option.{option_or}
use Rattle.std.specs.Result.{result_unwrap_or}
use Rattle.std.specs.Str.{all_scalars}
use Rattle.std.proofs.lemmas.Bool.{and_from, cond_both, ltb-false}
use lib.Utf8.{low_scalar}
use Rattle.browser_rules.specs.Packages.{END_PACKAGE, Package, STRINGS, is_bad, list_length, package_length, package_type, packages_from, packages_with}
use Rattle.browser_rules.specs.Strings.{Front, Spoken, Texts, block, characters, cut_block, cut_text, cut_texts, end_block, extension, front_of, info_offset, language_in, language_of, no_block, shown, spoken_by, spoken_in, text_at, text_in, text_of, texts_block, texts_from, texts_of, with_front}
use Rattle.browser_rules.specs.Words.{Cause, number_in}
use Rattle.hii_bytes.specs.Numbers.{AreBytes}
use Rattle.json_laws.proofs.ListLemmas.{some_of}
use Rattle.json_laws.proofs.WordLemmas.{Bytes, all_bytes, bytes_drop, bytes_take, decimal_word, shown_are_text, word_is_text}

-- ---- texts of bytes

abbrev AreTexts : Texts → Type 0
AreTexts texts = AllByRecursion (λ o. IfSome o Bytes) texts

abbrev AreCut : List ℕ × List ℕ → Type 0
AreCut cut = Bytes cut.0 × Bytes cut.1

unit_before : (low high : ℕ) (o : Option (List ℕ × List ℕ)) → low < 256 → high < 256 → IfSome o AreCut → IfSome (option_map (λ cut. (low ∷ high ∷ cut.0, cut.1)) o) AreCut
unit_before low high None l h good = tt
unit_before low high (Some cut) l h good = ((l, (h, good.0)), good.1)

text_cut : (bytes : List ℕ) → Bytes bytes → IfSome (cut_text bytes) AreCut
unfolding cut_text
text_cut [] all = tt
text_cut (low ∷ []) all = tt
text_cut (low ∷ high ∷ rest) all =
    cond_both (low == 0 && high == 0) (Some ([], rest)) (option_map (λ cut. (low ∷ high ∷ cut.0, cut.1)) (cut_text rest)) (λ o. IfSome o AreCut)
    (λ _. (tt, all.1.1)) (λ _. unit_before low high (cut_text rest) all.0 all.1.0 (text_cut rest all.1.1))

abbrev AreAllCut : List (List ℕ) × List ℕ → Type 0
AreAllCut cut = AllByRecursion Bytes cut.0 × Bytes cut.1

text_before : (text : List ℕ) (o : Option (List (List ℕ) × List ℕ)) → Bytes text → IfSome o AreAllCut → IfSome (option_map (λ others. (text ∷ others.0, others.1)) o) AreAllCut
text_before text None t good = tt
text_before text (Some others) t good = ((t, good.0), good.1)

texts_behind : (n : ℕ) (o : Option (List ℕ × List ℕ)) → IfSome o AreCut → ((rest : List ℕ) → Bytes rest → IfSome (cut_texts n rest) AreAllCut)
    → IfSome (option_and_then (λ cut. option_map (λ others. (cut.0 ∷ others.0, others.1)) (cut_texts n cut.1)) o) AreAllCut
texts_behind n None good later = tt
texts_behind n (Some cut) good later = text_before cut.0 (cut_texts n cut.1) good.0 (later cut.1 good.1)

texts_cut : (n : ℕ) (bytes : List ℕ) → Bytes bytes → IfSome (cut_texts n bytes) AreAllCut
unfolding cut_texts
texts_cut zero bytes all = (tt, all)
texts_cut (suc n) bytes all = texts_behind n (cut_text bytes) (text_cut bytes all) (texts_cut n)

got : (texts : Texts) (n : ℕ) → AreTexts texts → IfSome (unwrap_or (slice_get texts n) None) Bytes
got [] n all = tt
got (t ∷ texts) zero all = all.0
got (t ∷ texts) (suc n) all = got texts n all.1

text_got : (texts : Texts) (id : ℕ) → AreTexts texts → IfSome (text_at texts id) Bytes
text_got texts zero all = tt
text_got texts (suc n) all = got texts n all

-- ---- blocks

abbrev IsGoodFront : Front → Type 0
IsGoodFront end_block = ⊤
IsGoodFront (block added rest) = AreTexts added × Bytes rest
IsGoodFront cut_block = ⊤
IsGoodFront no_block = ⊤

record GoodFront (front : Front) : Type 0 where
  good : IsGoodFront front

all_there : (texts : List (List ℕ)) → AllByRecursion Bytes texts → AreTexts (map (λ text. Some text) texts)
all_there [] all = tt
all_there (t ∷ texts) all = (all.0, all_there texts all.1)

none_there : (n : ℕ) → AreTexts (replicate n None)
none_there zero = tt
none_there (suc n) = (tt, none_there n)

texts_front : (o : Option (List (List ℕ) × List ℕ)) → IfSome o AreAllCut → GoodFront (texts_block o)
texts_front None good = record { good = tt }
texts_front (Some cut) good = record { good = (all_there cut.0 good.0, good.1) }

either_front : (b : Bool) (x y : Front) → GoodFront x → GoodFront y → GoodFront (cond b x y)
either_front true x y good other = good
either_front false x y good other = other

extension_front : (header size : ℕ) (bytes : List ℕ) → Bytes bytes → GoodFront (extension header size bytes)
extension_front header size bytes all = either_front (nat_lt size header || nat_lt (length bytes) size) no_block (block [] (drop size bytes)) (record { good = tt }) (record { good = (tt, bytes_drop size bytes all) })

block_front : (added : Texts) (rest : List ℕ) → AreTexts added → Bytes rest → GoodFront (block added rest)
block_front added rest good all = record { good = (good, all) }

front_good : (texts : Texts) (bytes : List ℕ) → AreTexts texts → Bytes bytes → GoodFront (front_of texts bytes)
unfolding front_of
front_good texts bytes good all =
    either_front _ end_block _ (record { good = tt })
    (either_front _ _ _ (texts_front (cut_texts 1 (drop 1 bytes)) (texts_cut 1 (drop 1 bytes) (bytes_drop 1 bytes all)))
    (either_front _ _ _ (texts_front (cut_texts 1 (drop 2 bytes)) (texts_cut 1 (drop 2 bytes) (bytes_drop 2 bytes all)))
    (either_front _ _ _ (texts_front (cut_texts (number_in bytes 1 2) (drop 3 bytes)) (texts_cut (number_in bytes 1 2) (drop 3 bytes) (bytes_drop 3 bytes all)))
    (either_front _ _ _ (texts_front (cut_texts (number_in bytes 2 2) (drop 4 bytes)) (texts_cut (number_in bytes 2 2) (drop 4 bytes) (bytes_drop 4 bytes all)))
    (either_front _ _ _ (block_front (text_at texts (number_in bytes 1 2) ∷ []) (drop 3 bytes) (text_got texts (number_in bytes 1 2) good, tt) (bytes_drop 3 bytes all))
    (either_front _ _ _ (block_front (replicate (number_in bytes 1 2) None) (drop 3 bytes) (none_there (number_in bytes 1 2)) (bytes_drop 3 bytes all))
    (either_front _ _ _ (block_front (replicate (slice_index bytes 1) None) (drop 2 bytes) (none_there (slice_index bytes 1)) (bytes_drop 2 bytes all))
    (either_front _ _ _ (extension_front 3 (slice_index bytes 2) bytes all)
    (either_front _ _ _ (extension_front 4 (number_in bytes 2 2) bytes all)
    (either_front _ _ no_block (extension_front 6 (number_in bytes 2 4) bytes all) (record { good = tt })))))))))))

texts_more : (texts more : Texts) → AreTexts texts → AreTexts more → AreTexts (texts ++ more)
texts_more [] more good other = other
texts_more (t ∷ texts) more good other = (good.0, texts_more texts more good.1 other)

behind_front : (texts : Texts) (at : ℕ) (front : Front) (next : Texts → List ℕ → Result Texts (Cause × ℕ)) → AreTexts texts → GoodFront front
    → ((more : Texts) (rest : List ℕ) → AreTexts more → Bytes rest → IfOk (next more rest) AreTexts) → IfOk (with_front texts at front next) AreTexts
behind_front texts at end_block next good front later = good
behind_front texts at (block added rest) next good front later = later (texts ++ added) rest (texts_more texts added good front.good.0) front.good.1
behind_front texts at cut_block next good front later = tt
behind_front texts at no_block next good front later = tt

blocks_good : (n : ℕ) (texts : Texts) (at : ℕ) (bytes : List ℕ) → AreTexts texts → Bytes bytes → IfOk (texts_from n texts at bytes) AreTexts
unfolding texts_from
blocks_good zero texts at bytes good all = tt
blocks_good (suc n) texts at bytes good all =
    behind_front texts at (front_of texts bytes) (λ more rest. texts_from n more (at + (length bytes - length rest)) rest) good (front_good texts bytes good all)
    (λ more rest them rest_all. blocks_good n more (at + (length bytes - length rest)) rest them rest_all)

-- ---- packages

or_none : (r : Result Texts (Cause × ℕ)) → IfOk r AreTexts → AreTexts (result_unwrap_or r [])
or_none (Ok texts) good = good
or_none (Err fault) good = tt

pub AreSpoken : List Spoken → Type 0
AreSpoken spoken = AllByRecursion (λ s. AreTexts s.texts) spoken

abbrev pub HaveBytes : List Package → Type 0
HaveBytes ps = AllByRecursion (λ p. Bytes p.bytes) ps

pub packages_bytes : (n at : ℕ) (bytes : List ℕ) → Bytes bytes → HaveBytes (packages_from n at bytes)
unfolding packages_from
packages_bytes zero at bytes all = tt
packages_bytes (suc n) at bytes all =
    cond_both (is_bad bytes || package_type bytes == END_PACKAGE) []
    (record { place = at; kind = package_type bytes; bytes = take (package_length bytes) bytes } ∷ packages_from n (at + package_length bytes) (drop (package_length bytes) bytes))
    HaveBytes (λ _. tt)
    (λ _. (bytes_take (package_length bytes) bytes all, packages_bytes n (at + package_length bytes) (drop (package_length bytes) bytes) (bytes_drop (package_length bytes) bytes all)))

pub no_spoken : AreSpoken []
unfolding AreSpoken
no_spoken = tt

pub said_good : (ps : List Package) → HaveBytes ps → AreSpoken (map spoken_by ps)
unfolding AreSpoken
said_good [] all = tt
said_good (p ∷ ps) all =
    let blocks = drop (info_offset p.bytes) p.bytes in
    (or_none (texts_of p) (blocks_good (length p.bytes) [] (p.place + info_offset p.bytes) blocks tt (bytes_drop (info_offset p.bytes) p.bytes all.0)), said_good ps all.1)

-- ---- what is shown

number_got : (spoken : List Spoken) (n : ℕ) (id : ℕ) → AreSpoken spoken → IfSome (option_and_then (λ s. text_at s.texts id) (slice_get spoken n)) Bytes
unfolding AreSpoken
number_got [] n id good = tt
number_got (s ∷ spoken) zero id good = text_got s.texts id good.0
number_got (s ∷ spoken) (suc n) id good = number_got spoken n id good.1

choice_got : (spoken : List Spoken) (choice : Option ℕ) (id : ℕ) → AreSpoken spoken → IfSome (text_in spoken id choice) Bytes
choice_got spoken None id good = tt
choice_got spoken (Some n) id good = number_got spoken n id good

first_got : (one other : Option (List ℕ)) → IfSome one Bytes → IfSome other Bytes → IfSome (option_or one other) Bytes
first_got None other good too = too
first_got (Some text) other good too = good

text_shown : (o : Option (List ℕ)) (id : ℕ) → id < 2 ^ 64 → IfSome o Bytes → all_scalars (unwrap_or (option_map characters o) (35 ∷ decimal id)) ≡ true
text_shown None id small good = word_is_text (35 ∷ decimal id) (and_from _ _ refl (decimal_word id))
text_shown (Some text) id small good = shown_are_text text good

pub shown_by : (spoken : List Spoken) (choice : Option ℕ) (id : ℕ) → AreSpoken spoken → id < 2 ^ 64 → all_scalars (shown spoken choice id) ≡ true
shown_by spoken choice id good small =
    cond_both (id == 0) [] (unwrap_or (option_map characters (text_of spoken choice id)) (35 ∷ decimal id)) (λ l. all_scalars l ≡ true) (λ _. refl)
    (λ _. text_shown (text_of spoken choice id) id small (first_got (text_in spoken id choice) (text_in spoken id (Some 0)) (choice_got spoken choice id good) (choice_got spoken (Some 0) id good)))

pub strings_have_bytes : (list : List ℕ) → AreBytes list → HaveBytes (packages_with STRINGS list)
strings_have_bytes list are =
    let whole = take (list_length list) list in
    let all : Bytes (drop 20 whole) = bytes_drop 20 whole (bytes_take (list_length list) list (all_bytes list are)) in
    some_of (λ (p : Package). Bytes p.bytes) (λ p. p.kind == STRINGS) (packages_from (length list) 20 (drop 20 whole)) (packages_bytes (length list) 20 (drop 20 whole) all)

pub shown_are_characters : (list : List ℕ) (choice : Option ℕ) (id : ℕ) → AreBytes list → id < 2 ^ 64 → all_scalars (shown (spoken_in list) choice id) ≡ true
shown_are_characters list choice id are small = shown_by (spoken_in list) choice id (said_good (packages_with STRINGS list) (strings_have_bytes list are)) small

-- ---- languages

low_before : (byte : ℕ) (o : Option (List ℕ)) → byte < 0x7f → IfSome o (λ l. all_scalars l ≡ true) → IfSome (option_map (λ more. byte ∷ more) o) (λ l. all_scalars l ≡ true)
low_before byte None low good = tt
low_before byte (Some more) low good = and_from _ _ (low_scalar byte (omega arith)) good

language_read : (bytes : List ℕ) → IfSome (language_in bytes) (λ l. all_scalars l ≡ true)
language_read [] = tt
language_read (byte ∷ bytes) =
    cond_both (byte == 0) (Some []) (cond (nat_lt 0x7e byte) None (option_map (λ more. byte ∷ more) (language_in bytes))) (λ o. IfSome o (λ l. all_scalars l ≡ true)) (λ _. refl)
    (λ _. cond_both (nat_lt 0x7e byte) None (option_map (λ more. byte ∷ more) (language_in bytes)) (λ o. IfSome o (λ l. all_scalars l ≡ true)) (λ _. tt)
    (λ low. low_before byte (language_in bytes) (let small = ltb-false 0x7e byte low in omega arith) (language_read bytes)))

or_nothing : (o : Option (List ℕ)) → IfSome o (λ l. all_scalars l ≡ true) → all_scalars (unwrap_or o []) ≡ true
or_nothing None good = refl
or_nothing (Some language) good = good

said_languages : (ps : List Package) → AllByRecursion (λ s. all_scalars s.language ≡ true) (map spoken_by ps)
said_languages [] = tt
said_languages (p ∷ ps) = (or_nothing (language_of p) (language_read (take (info_offset p.bytes - 46) (drop 46 p.bytes))), said_languages ps)

pub languages_are_characters : (list : List ℕ) → AllByRecursion (λ s. all_scalars s.language ≡ true) (spoken_in list)
languages_are_characters list = said_languages (packages_with STRINGS list)
