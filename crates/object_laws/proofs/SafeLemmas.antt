-- Which texts are safe in a line.
use Rattle.std.proofs.Common.{◌≡◌, ◌==◌, ◌||◌, ◌&&◌, nat_lt, nat_le, not, ℕ, zero, suc, ◌+◌, ◌-◌, ◌/◌, ◌<◌, ◌≤◌, Bool, true, false, cond, ltb, List, [], ◌∷◌, ◌++◌, map, length, replicate, codes, IsUtf8, IsAscii, refl, sym, ap, ap₂, subst, ◌∙◌, append-nil, append_assoc, arith, inl, inr}
use Rattle.std.specs.List.{AllByRecursion, concat, flat_map, list_all, list_any}
use Rattle.std.specs.Str.{all_scalars, chars}
use Rattle.std.proofs.lemmas.Bool.{agree_below_at, and_cases, and_from, and_parts, cond_both, false_from_ne_true, false≢true, leb-true, ltb-true, ne_eqb, or_from, or_parts}
use Rattle.std.proofs.lemmas.List.Folds.{list_any-append}
use Rattle.std.proofs.lemmas.Str.{IsUtf8-append, IsUtf8-from_ascii, chars-IsAscii, chars-append, chars_from_encodes, encodes-chars}
use lib.Utf8.{encode, encodes, next, scalar}
use Rattle.hii_bytes.specs.Texts.{right_aligned}
use Rattle.audit_text.specs.Texts.{ascii_name, hex_text, is_unsafe, joined, language_byte, language_name, left_aligned, name_by, safe_char, safe_text, shown_byte}
use Rattle.check_audit.proofs.EachLemmas.{each_behind}
use Rattle.json_laws.specs.laws.Written.{IsWord, is_plain}
use Rattle.json_laws.proofs.WordLemmas.{hexadecimal_word}
use Rattle.object_laws.specs.laws.Lines.{AreLines, IsLine, IsSafe, is_control}

-- ---- printable characters of ASCII

abbrev pub is_printable : ℕ → Bool
is_printable c = nat_le 0x20 c && nat_le c 0x7E

abbrev pub IsPrintable : List ℕ → Type 0
IsPrintable text = list_all is_printable text ≡ true

printable_range : (c : ℕ) → is_printable c ≡ true → (0x20 ≤ c) × (c ≤ 0x7E)
printable_range c is = let p = and_parts (nat_le 0x20 c) (nat_le c 0x7E) is in (leb-true 0x20 c p.0, leb-true c 0x7E p.1)

abbrev unsafe_and_printable : ℕ → Bool
unsafe_and_printable c = is_printable c && is_unsafe c

printable_char : (c : ℕ) → is_printable c ≡ true → is_unsafe c ≡ false
printable_char c is =
    let range = printable_range c is in
    sym (ap (λ (b : Bool). b && is_unsafe c) is) ∙ agree_below_at unsafe_and_printable (λ _. false) 127 c refl (omega arith)

none_unsafe : (text : List ℕ) → IsPrintable text → list_any is_unsafe text ≡ false
none_unsafe [] all = refl
none_unsafe (c ∷ text) all = let p = and_parts (is_printable c) (list_all is_printable text) all in or_from _ _ (printable_char c p.0) (none_unsafe text p.1)

all_ascii : (text : List ℕ) → IsPrintable text → IsAscii text
all_ascii [] all i = omega arith
all_ascii (c ∷ text) all zero = let range = printable_range c (and_parts (is_printable c) (list_all is_printable text) all).0 in omega arith
all_ascii (c ∷ text) all (suc i) = all_ascii text (and_parts (is_printable c) (list_all is_printable text) all).1 i

pub printable_safe : (text : List ℕ) → IsPrintable text → IsSafe text
printable_safe text all =
    let ascii = all_ascii text all in
    record { utf8 = IsUtf8-from_ascii text ascii; none = ap (λ (cs : List ℕ). list_any is_unsafe cs) (chars-IsAscii text ascii) ∙ none_unsafe text all }

word_printable : (word : List ℕ) → IsWord word → IsPrintable word
word_printable [] plain = refl
word_printable (c ∷ word) plain =
    let p = and_parts (is_plain c) (list_all is_plain word) plain in
    let three = and_parts (nat_le 0x20 c && nat_le c 0x7E && not (c == 34)) (not (c == 92)) p.0 in
    and_from _ _ (and_parts (nat_le 0x20 c && nat_le c 0x7E) (not (c == 34)) three.0).0 (word_printable word p.1)

pub word_safe : (word : List ℕ) → IsWord word → IsSafe word
word_safe word plain = printable_safe word (word_printable word plain)

-- ---- one text behind another

pub safe_behind : {one other : List ℕ} → IsSafe one → IsSafe other → IsSafe (one ++ other)
safe_behind {one} {other} a b = record {
  utf8 = IsUtf8-append one other a.utf8 b.utf8;
  none = ap (λ (cs : List ℕ). list_any is_unsafe cs) (chars-append one other a.utf8) ∙ list_any-append is_unsafe (chars one) (chars other) ∙ or_from _ _ a.none b.none;
}

pub safe_nothing : IsSafe []
safe_nothing = printable_safe [] refl

-- ---- texts as they stand in a line

pub one_char : (c : ℕ) → scalar c ≡ true → is_unsafe c ≡ false → IsSafe (encode c)
one_char c is safe =
    let spells : encodes (c ∷ []) ≡ encode c = append-nil (encode c) in
    let utf8 : IsUtf8 (encode c) = (c ∷ [], (and_from _ _ is refl, spells)) in
    record { utf8 = utf8; none = ap (λ (cs : List ℕ). list_any is_unsafe cs) (sym (chars_from_encodes (c ∷ []) (encode c) utf8 spells)) ∙ or_from _ _ safe refl }

number_safe : (c : ℕ) → IsSafe (codes "\\u{" ++ hex_text c ++ codes "}")
number_safe c =
    safe_behind (safe_behind (printable_safe (codes "\\u{") refl) (word_safe (hex_text c) (hexadecimal_word c)))
    (printable_safe (codes "}") refl)

char_safe : (c : ℕ) → scalar c ≡ true → IsSafe (safe_char c)
char_safe c is = cond_both (is_unsafe c) (codes "\\u{" ++ hex_text c ++ codes "}") (encode c) IsSafe (λ _. number_safe c) (λ safe. one_char c is safe)

pub text_safe : (text : List ℕ) → all_scalars text ≡ true → IsSafe (safe_text text)
text_safe [] all = safe_nothing
text_safe (c ∷ text) all = let p = and_parts (scalar c) (all_scalars text) all in safe_behind (char_safe c p.0) (text_safe text p.1)

-- ---- no byte of a safe text is a control

high : (b : ℕ) → 128 ≤ b → is_control b ≡ false
high b above = or_from (nat_lt b 0x20) (b == 0x7F) (false_from_ne_true (nat_lt b 0x20) (λ e. let below = ltb-true b 0x20 e in omega arith)) (ne_eqb b 0x7F (omega arith))

abbrev control_and_safe : ℕ → Bool
control_and_safe c = is_control c && not (is_unsafe c)

low : (c : ℕ) → c < 128 → is_unsafe c ≡ false → is_control c ≡ false
low c below safe =
    elim (and_cases (is_control c) (not (is_unsafe c)) (agree_below_at control_and_safe (λ _. false) 128 c refl below)) [
      | inl e ↦ e
      | inr e ↦ let bad : true ≡ false = sym (ap not safe) ∙ e in absurd (false≢true (sym bad))
    ]

bytes_of_char : (c : ℕ) → is_unsafe c ≡ false → list_any is_control (encode c) ≡ false
unfolding encode
bytes_of_char c safe =
    let two = (192 + c / 64) ∷ next c ∷ [] in
    let three = (224 + c / 4096) ∷ next (c / 64) ∷ next c ∷ [] in
    let four = (240 + c / 262144) ∷ next (c / 4096) ∷ next (c / 64) ∷ next c ∷ [] in
    cond_both (ltb c 128) (c ∷ []) (cond (ltb c 2048) two (cond (ltb c 65536) three four)) (λ l. list_any is_control l ≡ false)
    (λ below. or_from _ _ (low c (ltb-true c 128 below) safe) refl)
    (λ _. cond_both (ltb c 2048) two (cond (ltb c 65536) three four) (λ l. list_any is_control l ≡ false)
    (λ _. or_from _ _ (high (192 + c / 64) (omega arith)) (or_from _ _ (high (next c) (omega arith)) refl))
    (λ _. cond_both (ltb c 65536) three four (λ l. list_any is_control l ≡ false)
    (λ _. or_from _ _ (high (224 + c / 4096) (omega arith)) (or_from _ _ (high (next (c / 64)) (omega arith)) (or_from _ _ (high (next c) (omega arith)) refl)))
    (λ _. or_from _ _ (high (240 + c / 262144) (omega arith))
    (or_from _ _ (high (next (c / 4096)) (omega arith)) (or_from _ _ (high (next (c / 64)) (omega arith)) (or_from _ _ (high (next c) (omega arith)) refl))))))

bytes_of_chars : (cs : List ℕ) → list_any is_unsafe cs ≡ false → list_any is_control (encodes cs) ≡ false
bytes_of_chars [] safe = refl
bytes_of_chars (c ∷ cs) safe =
    let p = or_parts (is_unsafe c) (list_any is_unsafe cs) safe in
    list_any-append is_control (encode c) (encodes cs) ∙ or_from _ _ (bytes_of_char c p.0) (bytes_of_chars cs p.1)

pub safe_bytes : (text : List ℕ) → IsSafe text → list_any is_control text ≡ false
safe_bytes text safe = ap (λ (l : List ℕ). list_any is_control l) (sym (encodes-chars text safe.utf8)) ∙ bytes_of_chars (chars text) safe.none

pub line_safe : {words : List ℕ} → IsSafe words → IsLine (words ++ codes "\n")
line_safe {words} safe = record { words = words; whole = refl; safe = safe; no_control = safe_bytes words safe }

-- where the last words stand with the LF
pub line_closed : {words : List ℕ} (last : List ℕ) → IsSafe words → IsSafe last → IsLine (words ++ (last ++ codes "\n"))
line_closed {words} last safe too = subst IsLine (append_assoc words last (codes "\n")) (line_safe (safe_behind safe too))

pub line_behind : {words line : List ℕ} → IsSafe words → IsLine line → IsLine (words ++ line)
line_behind {words} {line} safe is = subst (λ (l : List ℕ). IsLine (words ++ l)) (sym is.whole) (line_closed is.words safe is.safe)

-- ---- names

pub shown_printable : (byte : ℕ) → is_printable (shown_byte byte) ≡ true
shown_printable byte = cond_both (is_printable byte) byte 63 (λ c. is_printable c ≡ true) (λ is. is) (λ _. refl)

language_printable : (byte : ℕ) → is_printable (language_byte byte) ≡ true
language_printable byte = cond_both (byte == 0x20 || byte == 0x2C) 63 (shown_byte byte) (λ c. is_printable c ≡ true) (λ _. refl) (λ _. shown_printable byte)

each_printable : (show : ℕ → ℕ) → ((byte : ℕ) → is_printable (show byte) ≡ true) → (name : List ℕ) → IsPrintable (map show name)
each_printable show one [] = refl
each_printable show one (byte ∷ name) = and_from _ _ (one byte) (each_printable show one name)

pub name_printable : (show : ℕ → ℕ) → ((byte : ℕ) → is_printable (show byte) ≡ true) → (name : List ℕ) → IsPrintable (name_by show name)
name_printable show one [] = refl
name_printable show one (byte ∷ name) = each_printable show one (byte ∷ name)

pub store_name_safe : (name : List ℕ) → IsSafe (ascii_name name)
store_name_safe name = printable_safe (ascii_name name) (name_printable shown_byte shown_printable name)

pub language_safe : (language : List ℕ) → IsSafe (language_name language)
language_safe language = printable_safe (language_name language) (name_printable language_byte language_printable language)

-- ---- columns

spaces_printable : (n : ℕ) → IsPrintable (replicate n 32)
spaces_printable zero = refl
spaces_printable (suc n) = spaces_printable n

pub spaces_safe : (n : ℕ) → IsSafe (replicate n 32)
spaces_safe n = printable_safe (replicate n 32) (spaces_printable n)

pub left_safe : (width : ℕ) {text : List ℕ} → IsSafe text → IsSafe (left_aligned width text)
left_safe width {text} safe = safe_behind safe (spaces_safe (width - length text))

pub right_safe : (width : ℕ) {text : List ℕ} → IsSafe text → IsSafe (right_aligned width text)
right_safe width {text} safe = safe_behind (spaces_safe (width - length text)) safe

-- ---- texts of lists

pub each_safe : {X : Type 0} (P : X → Type 0) (f : X → List ℕ) (xs : List X) → ((x : X) → P x → IsSafe (f x)) → AllByRecursion P xs → IsSafe (flat_map f xs)
each_safe P f [] one all = safe_nothing
each_safe P f (x ∷ xs) one all = safe_behind (one x all.0) (each_safe P f xs one all.1)

pub any_safe : {X : Type 0} (f : X → List ℕ) (xs : List X) → ((x : X) → IsSafe (f x)) → IsSafe (flat_map f xs)
any_safe f [] one = safe_nothing
any_safe f (x ∷ xs) one = safe_behind (one x) (any_safe f xs one)

-- ---- words with a text between each two

pub joined_safe : {X : Type 0} (between : List ℕ) (f : X → List ℕ) (xs : List X) → IsSafe between → ((x : X) → IsSafe (f x)) → IsSafe (joined between (map f xs))
joined_safe between f [] safe one = word_safe (codes "-") refl
joined_safe {X} between f (x ∷ xs) safe one = safe_behind (one x) (more_safe xs)
  where
    more_safe : (others : List X) → IsSafe (flat_map (λ next. between ++ next) (map f others))
    more_safe [] = safe_nothing
    more_safe (other ∷ others) = safe_behind (safe_behind safe (one other)) (more_safe others)

-- ---- lines one behind the other

pub no_lines : AreLines []
no_lines = record { lines = []; each = tt; whole = refl }

pub one_line : {line : List ℕ} → IsLine line → AreLines line
one_line {line} is = record { lines = line ∷ []; each = (is, tt); whole = sym (append-nil line) }

concat_behind : (lines others : List (List ℕ)) → concat lines ++ concat others ≡ concat (lines ++ others)
concat_behind [] others = refl
concat_behind (line ∷ lines) others = append_assoc line (concat lines) (concat others) ∙ ap (λ (l : List ℕ). line ++ l) (concat_behind lines others)

pub lines_behind : {one other : List ℕ} → AreLines one → AreLines other → AreLines (one ++ other)
lines_behind {one} {other} a b = record {
  lines = a.lines ++ b.lines;
  each = each_behind IsLine a.lines b.lines a.each b.each;
  whole = ap₂ (λ (l m : List ℕ). l ++ m) a.whole b.whole ∙ concat_behind a.lines b.lines;
}

pub each_line : {X : Type 0} (P : X → Type 0) (f : X → List ℕ) (xs : List X) → ((x : X) → P x → AreLines (f x)) → AllByRecursion P xs → AreLines (flat_map f xs)
each_line P f [] one all = no_lines
each_line P f (x ∷ xs) one all = lines_behind (one x all.0) (each_line P f xs one all.1)

pub any_lines : {X : Type 0} (f : X → List ℕ) (xs : List X) → ((x : X) → AreLines (f x)) → AreLines (flat_map f xs)
any_lines f [] one = no_lines
any_lines f (x ∷ xs) one = lines_behind (one x) (any_lines f xs one)
