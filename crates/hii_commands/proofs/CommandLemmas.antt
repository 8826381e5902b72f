-- The command that a text asks for, and the one that is found in it.
use Rattle.std.proofs.Common.{◌≡◌, ◌⊎◌, if◌then◌else◌, ◌==◌, ◌&&◌, not, ◌≤◌, ℕ, ℤ, pos, neg_ℤ, ◌^◌, ◌<◌, Bool, true, false, List, [], ◌∷◌, ◌++◌, length, nat_le, drop, Option, Some, None, codes, option_map, refl, sym, ap, ◌∙◌, arith, inl, inr, subst, append-nil}
use Rattle.std.specs.Char.{digit_value}
use Rattle.std.specs.List.{list_all}
use Rattle.std.specs.Str.{bytes_eq}
use Rattle.std.specs.Str.Parse.{AllDigits}
use Rattle.std.proofs.lemmas.Bool.{and_parts, and_from, cases_Bool, cond-true, cond-false, eqb-true, ne_eqb, leb-true, le-leb}
use Rattle.std.proofs.lemmas.Slice.Eq.{bytes_eq-Decides}
use Rattle.browser_rules.specs.Script.{Command, Page, Set, Order, Text, Why, Go, Back, Press, Defaults, Extract, Route, Lang, Submit, Discard}
use Rattle.hii_bytes.specs.Digits.{number_below}
use Rattle.hii_bytes.specs.NumberList.{IsNumberList, is_number_list, numbers_of}
use Rattle.hii_bytes.proofs.DigitLemmas.{number_below-from, number_below-is}
use Rattle.hii_bytes.proofs.NumberListLemmas.{numbers_of-is, list-from, list-is}
use Rattle.hii_commands.specs.laws.Lines.{Lacks}
use Rattle.hii_commands.specs.laws.Asking.{Asks, IsValue, IsLanguage, IsOneWord, list_word}
use Rattle.hii_commands.specs.code.Reading.{is_language_byte, is_word_byte, question_in, value_in, begins_with, cut_word, question_command, default_class_in, row_number_in, list_in, set_in, order_in, text_in, why_in, go_in, press_in, defaults_in, lang_in, plain_in, is_one_word, word_command, numbered_in, worded_in, words_in, command_in}
use Rattle.hii_commands.proofs.WordLemmas.{cut_word-alone, cut_word-spaced, cut_word-together, together, begins, Lacks-digits}

-- ---- values

-- a first byte that is no digit of this radix does not begin digits
not_minus : (radix : ℕ) (digits : List ℕ) → radix ≤ 36 → AllDigits radix digits → begins_with digits (codes "-") ≡ false
not_minus radix [] small h = refl
not_minus radix (b ∷ digits) small h = elim (cases_Bool (b == 45)) [
  | inl e ↦ let bad : digit_value 45 < radix = subst (λ x. digit_value x < radix) (eqb-true b 45 e) h.0 in absurd (omega (arith, bad, small))
  | inr e ↦ rw e refl
]

not_hex : (digits : List ℕ) → AllDigits 10 digits → begins_with digits (codes "0x") ≡ false
not_hex [] h = refl
not_hex (b ∷ []) h = elim (cases_Bool (b == 48)) [ inl e ↦ rw e refl | inr e ↦ rw e refl ]
not_hex (b ∷ c ∷ digits) h = elim (cases_Bool (c == 120)) [
  | inl e ↦ let bad : digit_value 120 < 10 = subst (λ x. digit_value x < 10) (eqb-true c 120 e) h.1.0 in absurd (omega (arith, bad))
  | inr e ↦ elim (cases_Bool (b == 48)) [ inl f ↦ rw (f, e) refl | inr f ↦ rw f refl ]
]

value-from : (text : List ℕ) (z : ℤ) → IsValue text z → value_in text ≡ Some z
value-from text z (digits, n, inl (same, number, is)) =
    ap value_in same
    ∙ cond-false (begins_with digits (codes "-")) _ _ (not_minus 10 digits (omega arith) number.digits.1)
    ∙ cond-false (begins_with digits (codes "0x")) _ _ (not_hex digits number.digits.1)
    ∙ ap (option_map pos) (number_below-from (2 ^ 64) 10 20 digits n number)
    ∙ ap Some (sym is)
value-from text z (digits, n, inr (inl (same, number, is))) =
    ap value_in same
    ∙ ap (option_map (λ n. neg_ℤ (pos n))) (number_below-from (2 ^ 64) 10 20 digits n number)
    ∙ ap Some (sym is)
value-from text z (digits, n, inr (inr (same, number, is))) =
    ap value_in same
    ∙ ap (option_map pos) (number_below-from (2 ^ 64) 16 16 digits n number)
    ∙ ap Some (sym is)

-- the number under a map
mapped : {X : Type 0} (f : ℕ → X) (o : Option ℕ) (z : X) → option_map f o ≡ Some z → (n : ℕ) × (o ≡ Some n) × (z ≡ f n)
mapped f None z e = cc
mapped f (Some n) z e = let same : f n ≡ z = cc in (n, refl, sym same)

value-is : (text : List ℕ) (z : ℤ) → value_in text ≡ Some z → IsValue text z
value-is text z e = elim (cases_Bool (begins_with text (codes "-"))) [
  | inl minus ↦
      let m = mapped (λ n. neg_ℤ (pos n)) (number_below (2 ^ 64) 10 20 (drop 1 text)) z (sym (cond-true (begins_with text (codes "-")) _ _ minus) ∙ e) in
      (drop 1 text, m.0, inr (inl (begins text (codes "-") minus, number_below-is (2 ^ 64) 10 20 (drop 1 text) m.0 m.1, m.2)))
  | inr other ↦
      let e' = sym (cond-false (begins_with text (codes "-")) _ _ other) ∙ e in
      elim (cases_Bool (begins_with text (codes "0x"))) [
        | inl hex ↦
            let m = mapped pos (number_below (2 ^ 64) 16 16 (drop 2 text)) z (sym (cond-true (begins_with text (codes "0x")) _ _ hex) ∙ e') in
            (drop 2 text, m.0, inr (inr (begins text (codes "0x") hex, number_below-is (2 ^ 64) 16 16 (drop 2 text) m.0 m.1, m.2)))
        | inr plain ↦
            let m = mapped pos (number_below (2 ^ 64) 10 20 text) z (sym (cond-false (begins_with text (codes "0x")) _ _ plain) ∙ e') in
            (text, m.0, inl (refl, number_below-is (2 ^ 64) 10 20 text m.0 m.1, m.2))
      ]
]

-- ---- languages

-- the tests of `lang_in`
abbrev is_language : List ℕ → Bool
is_language text = nat_le 1 (length text) && (nat_le (length text) 63 && list_all is_language_byte text)

language-from : (text : List ℕ) → IsLanguage text → lang_in text ≡ Some (Lang text)
language-from text h =
    let all : is_language text ≡ true = and_from _ _ (le-leb _ _ h.some) (and_from _ _ (le-leb _ _ h.few) h.each) in
    cond-true (is_language text) (Some (Lang text)) None all

lang_asks : (text rest : List ℕ) (command : Command) → text ≡ codes "lang" ++ 32 ∷ rest → lang_in rest ≡ Some command → Asks text command
lang_asks text rest command whole e = elim (cases_Bool (is_language rest)) [
  | inl all ↦
      let some : Some (Lang rest) ≡ Some command = sym (cond-true (is_language rest) (Some (Lang rest)) None all) ∙ e in
      let same : Lang rest ≡ command = cc in
      let p = and_parts _ _ all in
      let q = and_parts _ _ p.1 in
      subst (Asks text) same (whole, record { some = leb-true _ _ p.0; few = leb-true _ _ q.0; each = q.1 })
  | inr other ↦ let none : ◌≡◌ {A = Option Command} None (Some command) = sym (cond-false (is_language rest) (Some (Lang rest)) None other) ∙ e in (cc)
]

-- ---- words

word_bytes-from : (text : List ℕ) → Lacks 32 text → list_all is_word_byte text ≡ true
word_bytes-from [] h = refl
word_bytes-from (b ∷ text) h = and_from _ _ (ap not (ne_eqb b 32 h.0)) (word_bytes-from text h.1)

word_bytes-are : (text : List ℕ) → list_all is_word_byte text ≡ true → Lacks 32 text
word_bytes-are [] e = tt
word_bytes-are (b ∷ text) e =
    let p = and_parts _ _ e in
    (λ same. let bad : not (32 == 32) ≡ true = subst (λ x. not (x == 32) ≡ true) same p.0 in (cc), word_bytes-are text p.1)

word-from : (command : List ℕ → Command) (text : List ℕ) → IsOneWord text → word_command command text ≡ Some (command text)
word-from command text h = cond-true (is_one_word text) (Some (command text)) None (and_from _ _ (le-leb _ _ h.some) (word_bytes-from text h.whole))

-- the command over one word is found in one
word-is : (command : List ℕ → Command) (text : List ℕ) (z : Command) → word_command command text ≡ Some z → IsOneWord text × (command text ≡ z)
word-is command text z e = elim (cases_Bool (is_one_word text)) [
  | inl all ↦
      let some : Some (command text) ≡ Some z = sym (cond-true (is_one_word text) (Some (command text)) None all) ∙ e in
      let same : command text ≡ z = cc in
      let p = and_parts _ _ all in
      (record { some = leb-true _ _ p.0; whole = word_bytes-are text p.1 }, same)
  | inr other ↦ let none : ◌≡◌ {A = Option Command} None (Some z) = sym (cond-false (is_one_word text) (Some (command text)) None other) ∙ e in (cc)
]

extract_asks : (text rest : List ℕ) (command : Command) → text ≡ codes "extract" ++ 32 ∷ rest → word_command Extract rest ≡ Some command → Asks text command
extract_asks text rest command whole e =
    let w = word-is Extract rest command e in subst (Asks text) w.1 (whole, w.0)

route_asks : (text rest : List ℕ) (command : Command) → text ≡ codes "route" ++ 32 ∷ rest → word_command Route rest ≡ Some command → Asks text command
route_asks text rest command whole e =
    let w = word-is Route rest command e in subst (Asks text) w.1 (whole, w.0)

-- ---- lists

-- what stands behind a word where a list follows it
abbrev word_after : List ℕ → Option (List ℕ)
word_after [] = None
word_after (b ∷ list) = Some (b ∷ list)

list-cut : (question list : List ℕ) → Lacks 32 question → cut_word (question ++ list_word list) ≡ (question, word_after list)
list-cut question [] h = ap cut_word (append-nil question) ∙ cut_word-alone question h
list-cut question (b ∷ list) h = cut_word-spaced question (b ∷ list) h

list-found : (list numbers : List ℕ) → IsNumberList list numbers → list_in (word_after list) ≡ Some numbers
list-found [] numbers h = ap Some (numbers_of-is [] numbers h)
list-found (b ∷ list) numbers h =
    cond-true (is_number_list (b ∷ list)) (Some (numbers_of (b ∷ list))) None (list-from (b ∷ list) numbers h) ∙ ap Some (numbers_of-is (b ∷ list) numbers h)

-- the list that is read stands behind the word
list-is_behind : (question numbers : List ℕ) (rest : Option (List ℕ)) → list_in rest ≡ Some numbers
    → (list : List ℕ) × IsNumberList list numbers × (together (question, rest) ≡ question ++ list_word list)
list-is_behind question numbers None e =
    let same : [] ≡ numbers = cc in ([], subst (IsNumberList []) same ([], refl, tt), sym (append-nil question))
list-is_behind question numbers (Some []) e = cc
list-is_behind question numbers (Some (b ∷ list)) e = elim (cases_Bool (is_number_list (b ∷ list))) [
  | inl is ↦
      let some : Some (numbers_of (b ∷ list)) ≡ Some numbers = sym (cond-true (is_number_list (b ∷ list)) (Some (numbers_of (b ∷ list))) None is) ∙ e in
      let same : numbers_of (b ∷ list) ≡ numbers = cc in
      (b ∷ list, subst (IsNumberList (b ∷ list)) same (list-is (b ∷ list) is), refl)
  | inr other ↦ let none : ◌≡◌ {A = Option (List ℕ)} None (Some numbers) = sym (cond-false (is_number_list (b ∷ list)) (Some (numbers_of (b ∷ list))) None other) ∙ e in (cc)
]

-- ---- commands

pub found : (text : List ℕ) (command : Command) → Asks text command → command_in text ≡ Some command
found text Page e = ap command_in e
found text Submit e = ap command_in e
found text (Lang language) (e, is_language) = ap command_in e ∙ language-from language is_language
found text (Extract request) (e, is_word) = ap command_in e ∙ word-from Extract request is_word
found text (Route response) (e, is_word) = ap command_in e ∙ word-from Route response is_word
found text (Why q) (question, e, is_question) = ap command_in e ∙ ap (option_map Why) (number_below-from 65536 10 5 question q is_question)
found text (Go q) (question, e, is_question) = ap command_in e ∙ ap (option_map Go) (number_below-from 65536 10 5 question q is_question)
found text Back e = ap command_in e
found text (Press row) (digits, e, is_row) = ap command_in e ∙ ap (option_map Press) (number_below-from (10 ^ 9) 10 9 digits row is_row)
found text (Defaults class) (digits, e, is_class) = ap command_in e ∙ ap (option_map Defaults) (number_below-from 65536 10 5 digits class is_class)
found text Discard e = ap command_in e
found text (Set q z) (question, value, e, is_question, is_value) =
    ap command_in e
    ∙ ap set_in (cut_word-spaced question value (Lacks-digits question is_question.digits.1))
    ∙ ap (λ o. question_command Set o (value_in value)) (number_below-from 65536 10 5 question q is_question)
    ∙ ap (option_map (Set q)) (value-from value z is_value)
found text (Order q numbers) (question, list, e, is_question, is_list) =
    ap command_in e
    ∙ ap order_in (list-cut question list (Lacks-digits question is_question.digits.1))
    ∙ ap (λ o. question_command Order o (list_in (word_after list))) (number_below-from 65536 10 5 question q is_question)
    ∙ ap (option_map (Order q)) (list-found list numbers is_list)
found text (Text q rest) (question, is_question, inl e) =
    ap command_in e
    ∙ ap text_in (cut_word-spaced question rest (Lacks-digits question is_question.digits.1))
    ∙ ap (λ o. question_command Text o (Some rest)) (number_below-from 65536 10 5 question q is_question)
found text (Text q rest) (question, is_question, inr (e, none)) =
    ap command_in e
    ∙ ap text_in (cut_word-alone question (Lacks-digits question is_question.digits.1))
    ∙ ap (λ o. question_command Text o (Some [])) (number_below-from 65536 10 5 question q is_question)
    ∙ ap (λ r. Some (Text q r)) (sym none)

question_command-is : {X : Type 0} (make : ℕ → X → Command) (o : Option ℕ) (p : Option X) (command : Command) → question_command make o p ≡ Some command
    → (q : ℕ) × (x : X) × (o ≡ Some q) × (p ≡ Some x) × (command ≡ make q x)
question_command-is make None p command e = cc
question_command-is make (Some q) None command e = cc
question_command-is make (Some q) (Some x) command e = let same : make q x ≡ command = cc in (q, x, refl, refl, sym same)

set_asks : (text rest : List ℕ) (command : Command) (words : List ℕ × Option (List ℕ)) → text ≡ codes "set" ++ 32 ∷ rest → cut_word rest ≡ words → set_in words ≡ Some command → Asks text command
set_asks text rest command (question, None) whole cut e = cc
set_asks text rest command (question, Some value) whole cut e =
    let s = question_command-is Set (question_in question) (value_in value) command e in
    let parts : rest ≡ question ++ 32 ∷ value = sym (cut_word-together rest) ∙ ap together cut in
    subst (Asks text) (sym s.4) (question, value, whole ∙ ap (λ r. codes "set " ++ r) parts, number_below-is 65536 10 5 question s.0 s.2, value-is value s.1 s.3)

order_asks : (text rest : List ℕ) (command : Command) (words : List ℕ × Option (List ℕ)) → text ≡ codes "order" ++ 32 ∷ rest → cut_word rest ≡ words → order_in words ≡ Some command → Asks text command
order_asks text rest command (question, list) whole cut e =
    let s = question_command-is Order (question_in question) (list_in list) command e in
    let l = list-is_behind question s.1 list s.3 in
    let parts : rest ≡ question ++ list_word l.0 = sym (cut_word-together rest) ∙ ap together cut ∙ l.2 in
    subst (Asks text) (sym s.4) (question, l.0, whole ∙ ap (λ r. codes "order " ++ r) parts, number_below-is 65536 10 5 question s.0 s.2, l.1)

text_asks : (text rest : List ℕ) (command : Command) (words : List ℕ × Option (List ℕ)) → text ≡ codes "text" ++ 32 ∷ rest → cut_word rest ≡ words → text_in words ≡ Some command → Asks text command
text_asks text rest command (question, None) whole cut e =
    let s = question_command-is Text (question_in question) (Some []) command e in
    let none : [] ≡ s.1 = cc s.3 in
    let parts : rest ≡ question = sym (cut_word-together rest) ∙ ap together cut in
    subst (Asks text) (sym s.4) (question, number_below-is 65536 10 5 question s.0 s.2, inr (whole ∙ ap (λ r. codes "text " ++ r) parts, sym none))
text_asks text rest command (question, Some new) whole cut e =
    let s = question_command-is Text (question_in question) (Some new) command e in
    let same : new ≡ s.1 = cc s.3 in
    let parts : rest ≡ question ++ 32 ∷ s.1 = sym (cut_word-together rest) ∙ ap together cut ∙ ap (λ n. question ++ 32 ∷ n) same in
    subst (Asks text) (sym s.4) (question, number_below-is 65536 10 5 question s.0 s.2, inl (whole ∙ ap (λ r. codes "text " ++ r) parts))

why_asks : (text rest : List ℕ) (command : Command) → text ≡ codes "why" ++ 32 ∷ rest → why_in rest ≡ Some command → Asks text command
why_asks text rest command whole e =
    let s = mapped Why (question_in rest) command e in
    subst (Asks text) (sym s.2) (rest, whole, number_below-is 65536 10 5 rest s.0 s.1)

go_asks : (text rest : List ℕ) (command : Command) → text ≡ codes "go" ++ 32 ∷ rest → go_in rest ≡ Some command → Asks text command
go_asks text rest command whole e =
    let s = mapped Go (question_in rest) command e in
    subst (Asks text) (sym s.2) (rest, whole, number_below-is 65536 10 5 rest s.0 s.1)

press_asks : (text rest : List ℕ) (command : Command) → text ≡ codes "press" ++ 32 ∷ rest → press_in rest ≡ Some command → Asks text command
press_asks text rest command whole e =
    let s = mapped Press (row_number_in rest) command e in
    subst (Asks text) (sym s.2) (rest, whole, number_below-is (10 ^ 9) 10 9 rest s.0 s.1)

defaults_ask : (text rest : List ℕ) (command : Command) → text ≡ codes "defaults" ++ 32 ∷ rest → defaults_in rest ≡ Some command → Asks text command
defaults_ask text rest command whole e =
    let s = mapped Defaults (default_class_in rest) command e in
    subst (Asks text) (sym s.2) (rest, whole, number_below-is 65536 10 5 rest s.0 s.1)

-- the branch of a word, or the other one
word_is : {X : Type 0} (word first : List ℕ) (here other z : X) → (if bytes_eq word first then here else other) ≡ z → ((word ≡ first) × (here ≡ z)) ⊎ (other ≡ z)
word_is word first here other z e = elim (cases_Bool (bytes_eq word first)) [
  | inl is ↦ inl ((bytes_eq-Decides word first).0 is, sym (cond-true (bytes_eq word first) here other is) ∙ e)
  | inr differs ↦ inr (sym (cond-false (bytes_eq word first) here other differs) ∙ e)
]

plain_asks : (word : List ℕ) (command : Command) → plain_in word ≡ Some command → Asks word command
plain_asks word command e = elim (word_is word (codes "page") (Some Page) _ (Some command) e) [
  | inl is ↦ let some = is.1 in let same : Page ≡ command = cc in subst (Asks word) same is.0
  | inr a ↦ elim (word_is word (codes "back") (Some Back) _ (Some command) a) [
    | inl is ↦ let some = is.1 in let same : Back ≡ command = cc in subst (Asks word) same is.0
    | inr b ↦ elim (word_is word (codes "submit") (Some Submit) _ (Some command) b) [
      | inl is ↦ let some = is.1 in let same : Submit ≡ command = cc in subst (Asks word) same is.0
      | inr c ↦ elim (word_is word (codes "discard") (Some Discard) None (Some command) c) [
        | inl is ↦ let some = is.1 in let same : Discard ≡ command = cc in subst (Asks word) same is.0
        | inr none ↦ cc
      ]
    ]
  ]
]

-- a first word and the rest behind its space
spaced : (text word rest first : List ℕ) → cut_word text ≡ (word, Some rest) → word ≡ first → text ≡ first ++ 32 ∷ rest
spaced text word rest first cut is = sym (cut_word-together text) ∙ ap together cut ∙ ap (λ w. w ++ 32 ∷ rest) is

numbered_asks : (text word rest : List ℕ) (command : Command) → cut_word text ≡ (word, Some rest) → numbered_in word rest ≡ Some command → Asks text command
numbered_asks text word rest command cut e = elim (word_is word (codes "why") (why_in rest) _ (Some command) e) [
  | inl is ↦ why_asks text rest command (spaced text word rest (codes "why") cut is.0) is.1
  | inr a ↦ elim (word_is word (codes "go") (go_in rest) _ (Some command) a) [
    | inl is ↦ go_asks text rest command (spaced text word rest (codes "go") cut is.0) is.1
    | inr b ↦ elim (word_is word (codes "press") (press_in rest) _ (Some command) b) [
      | inl is ↦ press_asks text rest command (spaced text word rest (codes "press") cut is.0) is.1
      | inr c ↦ elim (word_is word (codes "defaults") (defaults_in rest) None (Some command) c) [
        | inl is ↦ defaults_ask text rest command (spaced text word rest (codes "defaults") cut is.0) is.1
        | inr none ↦ cc
      ]
    ]
  ]
]

worded_asks : (text word rest : List ℕ) (command : Command) → cut_word text ≡ (word, Some rest) → worded_in word rest ≡ Some command → Asks text command
worded_asks text word rest command cut e = elim (word_is word (codes "lang") (lang_in rest) _ (Some command) e) [
  | inl is ↦ lang_asks text rest command (spaced text word rest (codes "lang") cut is.0) is.1
  | inr a ↦ elim (word_is word (codes "extract") (word_command Extract rest) _ (Some command) a) [
    | inl is ↦ extract_asks text rest command (spaced text word rest (codes "extract") cut is.0) is.1
    | inr b ↦ elim (word_is word (codes "route") (word_command Route rest) _ (Some command) b) [
      | inl is ↦ route_asks text rest command (spaced text word rest (codes "route") cut is.0) is.1
      | inr c ↦ numbered_asks text word rest command cut c
    ]
  ]
]

words_ask : (text : List ℕ) (command : Command) (words : List ℕ × Option (List ℕ)) → cut_word text ≡ words → words_in words ≡ Some command → Asks text command
words_ask text command (word, None) cut e =
    let whole : text ≡ word = sym (cut_word-together text) ∙ ap together cut in
    subst (λ t. Asks t command) (sym whole) (plain_asks word command e)
words_ask text command (word, Some rest) cut e = elim (word_is word (codes "set") (set_in (cut_word rest)) _ (Some command) e) [
  | inl is ↦ set_asks text rest command (cut_word rest) (spaced text word rest (codes "set") cut is.0) refl is.1
  | inr a ↦ elim (word_is word (codes "order") (order_in (cut_word rest)) _ (Some command) a) [
    | inl is ↦ order_asks text rest command (cut_word rest) (spaced text word rest (codes "order") cut is.0) refl is.1
    | inr b ↦ elim (word_is word (codes "text") (text_in (cut_word rest)) _ (Some command) b) [
      | inl is ↦ text_asks text rest command (cut_word rest) (spaced text word rest (codes "text") cut is.0) refl is.1
      | inr c ↦ worded_asks text word rest command cut c
    ]
  ]
]

-- the command that is found is asked for
pub asked : (text : List ℕ) (command : Command) → command_in text ≡ Some command → Asks text command
asked text command e = words_ask text command (cut_word text) refl e

pub one_command : (text : List ℕ) (a b : Command) → Asks text a → Asks text b → a ≡ b
one_command text a b p q = let same : Some a ≡ Some b = sym (found text a p) ∙ found text b q in (cc)
